pub mod FileToFile
pub mod FileToClauses
