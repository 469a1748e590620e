pub mod Numbers
pub mod Marks
pub mod Matcher
pub mod Tokens
pub mod FileFacts
