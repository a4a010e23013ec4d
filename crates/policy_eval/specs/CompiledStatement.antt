-- How a statement is kept, and the statement that it was made of.
use Rattle.std.specs.Prelude.{◌↔◌, IsTrue}
use Rattle.kms_names.specs.declared.actions.Action.{Action}
use Rattle.kms_names.specs.ActionSet.{has_action}
use Rattle.policy_doc.specs.declared.policies.Statement.{Statement}
use Rattle.policy_eval.specs.declared.statements.CompiledStatement.TheInside.{Inside}
use Rattle.policy_eval.specs.Matching.{ActionMatches}

abbrev pub statement_of : Inside → Statement
statement_of s = record {
  allow = s.allow;
  principals = s.names.items;
  actions = s.texts.actions;
  not_actions = s.texts.not_actions;
  resources = s.texts.resources;
  not_resources = s.texts.not_resources;
  conditions = s.conditions;
}

-- the set has the actions that its Action or NotAction matches
abbrev pub HasItsActions : Inside → Type 0
HasItsActions s = (action : Action) → IsTrue (has_action s.matched action) ↔ ActionMatches (statement_of s) action
