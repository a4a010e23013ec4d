-- The tags of each key ascend, and the parts of their list make the whole.
use Rattle.std.proofs.Common.{◌≡◌, ℕ, Bool, true, false, not, List, [], ◌∷◌, get_or, fold, filter, All, arith, if◌then◌else◌}
use Rattle.std.proofs.lemmas.List.Elements.{All-map, All-filter, All-push}
use Rattle.std.proofs.lemmas.List.Kept.{AllPairs-filter}
use Rattle.std.specs.Str.{bytes_eq}
use Rattle.std.specs.declared.cmp.Ordering.TheVariants.{Less}
use Rattle.persist_map.specs.Pairs.{Ascends, has_key, without_key}
use Rattle.resource_tags.specs.declared.tags.Tag.{Tag}
use Rattle.resource_tags.specs.Tags.{Tags, by_bytes, without_tags}
use Rattle.tag_order.proofs.OrderFacts.{all_put, none_ascend}
use Rattle.key_states.specs.declared.rows.KeyRow.{KeyRow}
use Rattle.key_states.specs.States.{is_due}
use Rattle.account_rows.specs.declared.entries.Entry.{Entry}
use Rattle.account_rows.specs.declared.entries.What.{What}
use Rattle.account_rows.specs.declared.entries.What.TheVariants as what
use Rattle.account_rows.specs.Changes.{new_key, tagged, untagged, changed, rotated, rotated_if_due, is_gone, house_kept, keys_after}
use Rattle.account_rows.specs.History.{State, step, nothing_yet, replay}
use Rattle.account_tags.proofs.PageFacts.{parts_whole}
use Rattle.account_laws.specs.Laws.{TagsOfKeysAreWhole}

-- ---- tags that are put and dropped

abbrev IsBefore : List ℕ × List ℕ → List ℕ × List ℕ → Type 0
IsBefore pair later = by_bytes pair.0 later.0 ≡ Less

all_dropped : (tags : Tags) (keys : List (List ℕ)) → Ascends by_bytes tags → Ascends by_bytes (without_tags tags keys)
all_dropped tags [] up = up
all_dropped tags (key ∷ keys) up = all_dropped (without_key by_bytes tags key) keys (AllPairs-filter IsBefore (λ pair. not (has_key by_bytes key pair)) tags up)

-- ---- one entry, and all

abbrev InOrder : KeyRow → Type 0
InOrder row = Ascends by_bytes row.tags

in_order_if : (b : Bool) (row new : KeyRow) → InOrder row → InOrder new → InOrder (if b then new else row)
in_order_if true row new is has = has
in_order_if false row new is has = is

all_changed : (key : List ℕ) (f : KeyRow → KeyRow) → ((row : KeyRow) → InOrder row → InOrder (f row)) → (rows : List KeyRow) → All InOrder rows → All InOrder (changed key f rows)
all_changed key f keeps rows all =
    All-map InOrder (λ row. if bytes_eq row.key key then f row else row) rows
    (λ k d lt. in_order_if (bytes_eq (get_or rows k d).key key) (get_or rows k d) (f (get_or rows k d)) (all k d lt) (keeps (get_or rows k d) (all k d lt)))

all_kept : (time : ℕ) (rows : List KeyRow) → All InOrder rows → All InOrder (house_kept time rows)
all_kept time rows all =
    All-map InOrder (rotated_if_due time) (filter (λ row. not (is_gone time row)) rows)
    (λ k d lt. in_order_if (is_due (get_or (filter (λ row. not (is_gone time row)) rows) k d) time) _ (rotated time (get_or (filter (λ row. not (is_gone time row)) rows) k d)) (left k d lt) (left k d lt))
  where
    left : All InOrder (filter (λ row. not (is_gone time row)) rows)
    left = All-filter (λ row. not (is_gone time row)) InOrder rows all

after_entry : (n time : ℕ) (w : What) (rows : List KeyRow) → All InOrder rows → All InOrder (keys_after n time w rows)
after_entry n time (what.CreateKey key kind description policy tags) rows all = All-push InOrder rows (new_key n time key kind description policy tags) all (all_put [] tags none_ascend)
after_entry n time (what.Enable key) rows all = all_changed key _ (λ row is. is) rows all
after_entry n time (what.Disable key) rows all = all_changed key _ (λ row is. is) rows all
after_entry n time (what.Schedule key date days) rows all = all_changed key _ (λ row is. is) rows all
after_entry n time (what.Cancel key) rows all = all_changed key _ (λ row is. is) rows all
after_entry n time (what.RotationOn key period) rows all = all_changed key _ (λ row is. is) rows all
after_entry n time (what.RotationOff key) rows all = all_changed key _ (λ row is. is) rows all
after_entry n time (what.RotateNow key) rows all = all_changed key _ (λ row is. is) rows all
after_entry n time (what.Policy key text) rows all = all_changed key _ (λ row is. is) rows all
after_entry n time (what.Description key text) rows all = all_changed key _ (λ row is. is) rows all
after_entry n time (what.Tag key tags) rows all = all_changed key (tagged tags) (λ row is. all_put row.tags tags is) rows all
after_entry n time (what.Untag key keys) rows all = all_changed key (untagged keys) (λ row is. all_dropped row.tags keys is) rows all
after_entry n time what.House rows all = all_kept time rows all
after_entry n time _ rows all = all

after_all : (state : State) (more : List Entry) → All InOrder state.keys → All InOrder (fold step state more).keys
after_all state [] all = all
after_all state (entry ∷ more) all = after_all (step state entry) more (after_entry state.entries entry.time entry.what state.keys all)

pub tags_are_whole : TagsOfKeysAreWhole
tags_are_whole history k d lt =
    let up = after_all nothing_yet history (λ i e within. absurd (omega (arith, within))) k d lt in
    record { in_order = up; parts = parts_whole (get_or (replay history).keys k d).tags up }
