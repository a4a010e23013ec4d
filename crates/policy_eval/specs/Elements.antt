-- The texts of a statement's elements.
use Rattle.std.specs.Prelude.{ℕ, List}
use Rattle.policy_doc.specs.declared.policies.Statement.{Statement}

pub record Elements : Type 0 where
  pub not_resources : List (List ℕ)
  pub resources : List (List ℕ)
  pub actions : List (List ℕ)
  pub not_actions : List (List ℕ)

abbrev pub elements_of : Statement → Elements
elements_of s = record {
  not_resources = s.not_resources;
  resources = s.resources;
  actions = s.actions;
  not_actions = s.not_actions;
}
