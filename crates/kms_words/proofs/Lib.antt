mod WordFacts
mod NumberFacts
