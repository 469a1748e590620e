-- Laws of a job's checks.
mod CheckingLaws
