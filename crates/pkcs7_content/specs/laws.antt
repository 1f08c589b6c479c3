pub mod AttributeValues
pub mod ContentLaws
