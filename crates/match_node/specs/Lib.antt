pub mod MatchNode
