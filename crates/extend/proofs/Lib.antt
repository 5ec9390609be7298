pub mod MoveLaws
pub mod PlanLaws
pub mod WordLaws
pub mod RowLaws
pub mod GrowLaws
pub mod RowsLaws
