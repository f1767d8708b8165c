pub mod Table
pub mod Is
