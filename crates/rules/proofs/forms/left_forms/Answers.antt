-- `rules::forms::left_forms` meets its contract.
use Rattle.rules.specs.Forms.{is_left}
use Rattle.rules.proofs.FormLaws.{passing_five}
use Rattle.rules.proofs.forms.left_forms.Goals as goal

pub returns-clause-forms : goal.returns-clause-forms
returns-clause-forms c = rw c.left_flags.ensures (passing_five (is_left c.args.pair.now))
