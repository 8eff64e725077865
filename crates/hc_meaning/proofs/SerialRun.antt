-- The setup script's run, one statement after another, is right, and its output is a right output.
pub mod AfterEach
pub mod Alone
pub mod Grown
pub mod OneConnection
pub mod Places
pub mod RowsHaveValues
pub mod SerialOutput
