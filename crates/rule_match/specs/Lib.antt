pub mod RuleMatch
pub mod Ready
