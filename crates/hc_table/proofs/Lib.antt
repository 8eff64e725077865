pub mod Actions
pub mod Cells
mod OneLanguage
mod Placing
mod Short
mod TakenForms
mod Worked
