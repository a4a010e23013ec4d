pub mod HmacFacts
