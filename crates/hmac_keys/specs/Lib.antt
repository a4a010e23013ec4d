pub mod Asked
pub mod Kind
pub mod Laws
pub mod Mac
