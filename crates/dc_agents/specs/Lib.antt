pub mod AgentsText
