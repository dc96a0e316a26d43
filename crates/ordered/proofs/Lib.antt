pub mod Inserted
pub mod Rising
