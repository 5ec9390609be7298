pub mod PutLaws
pub mod FieldLaws
pub mod RetypeLaws
pub mod KeptLaws
pub mod TwinLaws
pub mod NewLaws
pub mod AnswerLaws
