-- The texts of a statement's elements, as they are kept one behind another.
use Rattle.std.specs.Prelude.{take, drop}
use Rattle.policy_eval.specs.declared.element_texts.ElementTexts.TheInside.{Inside}
use Rattle.policy_eval.specs.Elements.{Elements}

-- those of NotResource, those of Resource, those of Action, and the others
abbrev pub parted : Inside → Elements
parted e = record {
  not_resources = take e.not_resource_count e.texts;
  resources = take e.resource_count (drop e.not_resource_count e.texts);
  actions = take e.action_count (drop e.resource_count (drop e.not_resource_count e.texts));
  not_actions = drop e.action_count (drop e.resource_count (drop e.not_resource_count e.texts));
}
