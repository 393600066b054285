pub mod ByteWrites
pub mod PlanLemmas
