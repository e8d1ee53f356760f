pub mod Words
pub mod Numbers
pub mod Fields
pub mod Position
pub mod Reading
pub mod Laws
pub mod Grammar
pub mod GrammarLaws
