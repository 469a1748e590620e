-- Laws of the rows of a job that passed its checks, and of its list.
mod RowLaws
mod GatherLaws
mod MatchLaws
mod KeyLaws
mod ShownLaws
mod EditLaws
mod EditsLaws
mod ListLaws
