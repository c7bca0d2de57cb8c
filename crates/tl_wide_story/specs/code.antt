pub mod WideReplaying
