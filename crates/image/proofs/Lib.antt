pub mod FieldLaws
pub mod ReaderLaws
pub mod WalkLaws
pub mod SurveyLaws
pub mod BodyLaws
pub mod FrontLaws
pub mod AlikeLaws
