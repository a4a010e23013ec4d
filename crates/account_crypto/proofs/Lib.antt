mod DrawFacts
