pub mod ArrayText
pub mod DemoText
pub mod Line
pub mod LooksText
pub mod PlanText
pub mod RelationText
pub mod SummaryText
