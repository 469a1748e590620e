-- Laws of the walk.
mod RuleLaws
