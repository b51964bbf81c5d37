pub mod DrillText
