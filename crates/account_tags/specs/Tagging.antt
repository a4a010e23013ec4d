-- The operations on the tags of keys (AWS KMS API Reference, TagResource, UntagResource, ListResourceTags): what each says
-- of the steps.
use Rattle.std.specs.Prelude.{ℕ, List, [], ◌∷◌, length, nat_lt, Bool, false, if◌then◌else◌, Option, Some, None, is_some, Ok, ⊤}
use Rattle.std.specs.List.{list_any}
use Rattle.persist_map.specs.Pairs.{value_at}
use Rattle.resource_tags.specs.Tags.{Tags, by_bytes, with_tags}
use Rattle.resource_tags.specs.declared.tags.Tag.{Tag}
use Rattle.tag_order.specs.Order.{in_order}
use Rattle.kms_names.specs.declared.actions.Action.TheVariants as action
use Rattle.kms_json.specs.declared.asks.pages.Page.{Page}
use Rattle.kms_json.specs.declared.refusals.Limit.TheVariants as limit
use Rattle.kms_json.specs.declared.refusals.Refusal.{Refusal}
use Rattle.kms_json.specs.declared.refusals.Refusal.TheVariants as refusal
use Rattle.kms_json.specs.declared.replies.Reply.TheVariants as reply
use Rattle.key_states.specs.declared.rows.KeyRow.{KeyRow}
use Rattle.account_rows.specs.declared.entries.What.TheVariants as what
use Rattle.account_steps.specs.Places.{nothing_used}
use Rattle.account_steps.specs.Steps.{unless, improper, only_key_of}
use Rattle.account_steps.specs.Authority.{on_key, of_key}
use Rattle.account_steps.specs.View.{View}
use Rattle.account_steps.specs.Parts.{ReadParts, ChangeParts}
use Rattle.account_tags.specs.Pages.{behind_marker, part_of}

-- a key has 50 tags at most
abbrev pub too_many : Tags → List Tag → Option Refusal
too_many tags more = if nat_lt 50 (length (with_tags tags more)) then Some (refusal.LimitExceeded limit.Tags) else None

-- TagResource, whose entry has the tags in the order of their keys
abbrev pub tags_key : View → List ℕ → List Tag → ChangeParts KeyRow (List Tag)
tags_key view reference tags = record {
  parts = record {
    found = only_key_of view reference;
    questions = λ row. on_key action.TagResource row (record (of_key view row) { request_tags = tags }) ∷ [];
    tokens = [];
    uses = λ row. record { action = action.TagResource; key = row } ∷ [];
    own = λ row. unless (improper tags) (unless (too_many row.tags (in_order tags)) (Ok (in_order tags)));
    dry_run = false;
    reply = λ row ready. reply.Done;
  };
  does = λ row ready. Some (what.Tag row.key ready);
}

-- a tag of the key has one of these keys
abbrev pub has_some : Tags → List (List ℕ) → Bool
has_some tags keys = list_any (λ key. is_some (value_at by_bytes tags key)) keys

-- UntagResource, which has nothing to do where no tag of the key has one of the keys
abbrev pub untags_key : View → List ℕ → List (List ℕ) → ChangeParts KeyRow ⊤
untags_key view reference keys = record {
  parts = record {
    found = only_key_of view reference;
    questions = λ row. on_key action.UntagResource row (record (of_key view row) { untagged = keys }) ∷ [];
    tokens = [];
    uses = λ row. record { action = action.UntagResource; key = row } ∷ [];
    own = λ row. Ok tt;
    dry_run = false;
    reply = λ row ready. reply.Done;
  };
  does = λ row ready. if has_some row.tags keys then Some (what.Untag row.key keys) else None;
}

-- ListResourceTags
abbrev pub lists_tags : View → List ℕ → Page → ReadParts KeyRow (Option (List ℕ))
lists_tags view reference page = record {
  parts = record {
    found = only_key_of view reference;
    questions = λ row. on_key action.ListResourceTags row (of_key view row) ∷ [];
    tokens = [];
    uses = λ row. record { action = action.ListResourceTags; key = row } ∷ [];
    own = λ row. behind_marker page.marker;
    dry_run = false;
    reply = λ row after. reply.Tags (part_of row.tags page.limit after);
  };
  takes = nothing_used;
}
