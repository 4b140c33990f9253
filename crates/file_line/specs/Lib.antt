pub mod FileLine
