-- The tags of a key are what the entries of the history last gave.
use Rattle.std.proofs.Common.{◌≡◌, ℕ, Bool, true, false, List, [], ◌∷◌, ◌++◌, get_or, map, filter, fold, Option, None, Some, refl, sym, ◌∙◌, ap, arith, if◌then◌else◌, ◌⊎◌, inl, inr}
use Rattle.std.specs.Prelude.{All, not, ◌&&◌}
use Rattle.std.specs.Option.{option_map, option_or}
use Rattle.std.specs.Str.{bytes_eq}
use Rattle.std.proofs.lemmas.List.Elements.{All-cons, All-map, All-filter, All-push}
use Rattle.std.proofs.lemmas.Slice.Eq.{bytes_eq-Decides}
use Rattle.hmac_keys.specs.declared.kinds.KeyKind.{KeyKind}
use Rattle.persist_map.specs.Pairs.{value_at}
use Rattle.resource_tags.specs.declared.tags.Tag.{Tag}
use Rattle.resource_tags.specs.Laws.{last_value, is_among}
use Rattle.resource_tags.specs.Tags.{by_bytes}
use Rattle.resource_tags.proofs.TagFacts.{put_there, dropped_gone}
use Rattle.key_states.specs.declared.rows.KeyRow.{KeyRow}
use Rattle.key_states.specs.States.{is_due}
use Rattle.account_rows.specs.declared.entries.Entry.{Entry}
use Rattle.account_rows.specs.declared.entries.What.{What}
use Rattle.account_rows.specs.declared.entries.What.TheVariants as what
use Rattle.account_rows.specs.Changes.{new_key, tagged, untagged, changed, rotated, rotated_if_due, is_gone, house_kept, keys_after}
use Rattle.account_rows.specs.History.{State, step, nothing_yet, replay, place_in, IsMadeHere, AreMadeFrom, AreRows}
use Rattle.account_rows.specs.Laws.{gives, IsLastGiven, TagsAreTheLastGiven}
use Rattle.account_rows.proofs.RowFacts.{found_all, found_key, rows_after, no_rows}

or_none : (o : Option (List ℕ)) → option_or o None ≡ o
or_none None = refl
or_none (Some value) = refl

-- what leaves the id and the tags of a row
record Leaves (row new : KeyRow) : Type 0 where
  pub key : new.key ≡ row.key
  pub tags : new.tags ≡ row.tags

left_if : (b : Bool) (row new : KeyRow) → Leaves row new → Leaves row (if b then new else row)
left_if true row new leaves = leaves
left_if false row new leaves = record { key = refl; tags = refl }

module _ (id tag : List ℕ) where
  -- the rows of the id have what was given
  abbrev Has : Option (Option (List ℕ)) → KeyRow → Type 0
  Has given row = row.key ≡ id → given ≡ Some (value_at by_bytes row.tags tag)

  -- what was given behind an entry
  abbrev then_given : Option (Option (List ℕ)) → What → Option (Option (List ℕ))
  then_given given w = option_or (gives id tag w) given

  -- ---- what leaves the tags

  module _ (given : Option (Option (List ℕ))) where
    left : (row new : KeyRow) → Leaves row new → Has given row → Has given new
    left row new leaves has is = has (sym leaves.key ∙ is) ∙ ap (λ tags. Some (value_at by_bytes tags tag)) (sym leaves.tags)

    all_left : (f : KeyRow → KeyRow) → ((row : KeyRow) → Leaves row (f row)) → (rows : List KeyRow) → All (Has given) rows → All (Has given) (map f rows)
    all_left f leaves rows all = All-map (Has given) f rows (λ k d lt. left (get_or rows k d) (f (get_or rows k d)) (leaves (get_or rows k d)) (all k d lt))

    all_changed : (key : List ℕ) (f : KeyRow → KeyRow) → ((row : KeyRow) → Leaves row (f row)) → (rows : List KeyRow) → All (Has given) rows → All (Has given) (changed key f rows)
    all_changed key f leaves rows all = all_left (λ row. if bytes_eq row.key key then f row else row) (λ row. left_if (bytes_eq row.key key) row (f row) (leaves row)) rows all

    all_kept : (time : ℕ) (rows : List KeyRow) → All (Has given) rows → All (Has given) (house_kept time rows)
    all_kept time rows all =
        all_left (rotated_if_due time) (λ row. left_if (is_due row time) row (rotated time row) (record { key = refl; tags = refl })) (filter (λ row. not (is_gone time row)) rows)
        (All-filter (λ row. not (is_gone time row)) (Has given) rows all)

  -- ---- what changes them

  -- a key is made
  module _ (n time : ℕ) (key : List ℕ) (kind : KeyKind) (description policy : List ℕ) (tags : List Tag) (given : Option (Option (List ℕ))) where
    abbrev new : KeyRow
    new = new_key n time key kind description policy tags

    abbrev makes : What
    makes = what.CreateKey key kind description policy tags

    older : (rows : List KeyRow) → place_in key ≡ n → AreRows n rows → All (Has given) rows → All (Has (then_given given makes)) rows
    older rows here are all k d lt is = by_test (bytes_eq id key) refl
      where
        by_test : (b : Bool) → bytes_eq id key ≡ b → option_or (if b then Some (last_value tags tag) else None) given ≡ Some (value_at by_bytes (get_or rows k d).tags tag)
        by_test true e =
            let row = are.each k d lt in
            let same : id ≡ key = (bytes_eq-Decides id key).0 e in
            absurd (omega (arith, row.before, row.named, ap place_in is, ap place_in same, here))
        by_test false e = all k d lt is

    newest : Has (then_given given makes) new
    newest is =
        ap (λ b. option_or (if b then Some (last_value tags tag) else None) given) ((bytes_eq-Decides id key).1 (sym is))
        ∙ ap Some (sym (put_there [] tags tag ∙ or_none (last_value tags tag)))

    made : (rows : List KeyRow) → place_in key ≡ n → AreRows n rows → All (Has given) rows → All (Has (then_given given makes)) (rows ++ new ∷ [])
    made rows here are all = All-push (Has (then_given given makes)) rows new (older rows here are all) newest

  module _ (key : List ℕ) (given : Option (Option (List ℕ))) where
    -- tags are put
    put : (tags : List Tag) (row : KeyRow) (b : Bool) → bytes_eq row.key key ≡ b → Has given row → Has (then_given given (what.Tag key tags)) (if b then tagged tags row else row)
    put tags row true e has is =
        ap (λ b. option_or (if b then option_map Some (last_value tags tag) else None) given) (ap (λ k. bytes_eq k key) (sym is) ∙ e)
        ∙ by_last (last_value tags tag) (value_at by_bytes row.tags tag) (has is)
        ∙ ap Some (sym (put_there row.tags tags tag))
      where
        by_last : (last old : Option (List ℕ)) → given ≡ Some old → option_or (option_map Some last) given ≡ Some (option_or last old)
        by_last None old had = had
        by_last (Some value) old had = refl
    put tags row false e has is = ap (λ b. option_or (if b then option_map Some (last_value tags tag) else None) given) (ap (λ k. bytes_eq k key) (sym is) ∙ e) ∙ has is

    all_put : (tags : List Tag) (rows : List KeyRow) → All (Has given) rows → All (Has (then_given given (what.Tag key tags))) (changed key (tagged tags) rows)
    all_put tags rows all =
        All-map (Has (then_given given (what.Tag key tags))) (λ row. if bytes_eq row.key key then tagged tags row else row) rows
        (λ k d lt. put tags (get_or rows k d) (bytes_eq (get_or rows k d).key key) refl (all k d lt))

    -- tags are dropped
    dropped : (keys : List (List ℕ)) (row : KeyRow) (b : Bool) → bytes_eq row.key key ≡ b → Has given row → Has (then_given given (what.Untag key keys)) (if b then untagged keys row else row)
    dropped keys row true e has is =
        ap (λ b. option_or (if b && is_among keys tag then Some None else None) given) (ap (λ k. bytes_eq k key) (sym is) ∙ e)
        ∙ by_test (is_among keys tag) (value_at by_bytes row.tags tag) (has is)
        ∙ ap Some (sym (dropped_gone row.tags keys tag))
      where
        by_test : (b : Bool) (old : Option (List ℕ)) → given ≡ Some old → option_or (if b then Some None else None) given ≡ Some (if b then None else old)
        by_test true old had = refl
        by_test false old had = had
    dropped keys row false e has is = ap (λ b. option_or (if b && is_among keys tag then Some None else None) given) (ap (λ k. bytes_eq k key) (sym is) ∙ e) ∙ has is

    all_dropped : (keys : List (List ℕ)) (rows : List KeyRow) → All (Has given) rows → All (Has (then_given given (what.Untag key keys))) (changed key (untagged keys) rows)
    all_dropped keys rows all =
        All-map (Has (then_given given (what.Untag key keys))) (λ row. if bytes_eq row.key key then untagged keys row else row) rows
        (λ k d lt. dropped keys (get_or rows k d) (bytes_eq (get_or rows k d).key key) refl (all k d lt))

  -- ---- one entry, and all

  given_after : (n time : ℕ) (w : What) (rows : List KeyRow) (given : Option (Option (List ℕ))) → IsMadeHere n w → AreRows n rows → All (Has given) rows → All (Has (then_given given w)) (keys_after n time w rows)
  given_after n time (what.CreateKey key kind description policy tags) rows given here are all = made n time key kind description policy tags given rows here are all
  given_after n time (what.Enable key) rows given here are all = all_changed given key _ (λ row. record { key = refl; tags = refl }) rows all
  given_after n time (what.Disable key) rows given here are all = all_changed given key _ (λ row. record { key = refl; tags = refl }) rows all
  given_after n time (what.Schedule key date days) rows given here are all = all_changed given key _ (λ row. record { key = refl; tags = refl }) rows all
  given_after n time (what.Cancel key) rows given here are all = all_changed given key _ (λ row. record { key = refl; tags = refl }) rows all
  given_after n time (what.RotationOn key period) rows given here are all = all_changed given key _ (λ row. record { key = refl; tags = refl }) rows all
  given_after n time (what.RotationOff key) rows given here are all = all_changed given key _ (λ row. record { key = refl; tags = refl }) rows all
  given_after n time (what.RotateNow key) rows given here are all = all_changed given key _ (λ row. record { key = refl; tags = refl }) rows all
  given_after n time (what.Policy key text) rows given here are all = all_changed given key _ (λ row. record { key = refl; tags = refl }) rows all
  given_after n time (what.Description key text) rows given here are all = all_changed given key _ (λ row. record { key = refl; tags = refl }) rows all
  given_after n time (what.Tag key tags) rows given here are all = all_put key given tags rows all
  given_after n time (what.Untag key keys) rows given here are all = all_dropped key given keys rows all
  given_after n time what.House rows given here are all = all_kept given time rows all
  given_after n time _ rows given here are all = all

  abbrev given_by : Option (Option (List ℕ)) → List Entry → Option (Option (List ℕ))
  given_by given history = fold (λ g (entry : Entry). then_given g entry.what) given history

  given_from : (state : State) (more : List Entry) (given : Option (Option (List ℕ))) → AreMadeFrom state.entries more → AreRows state.entries state.keys → All (Has given) state.keys
      → All (Has (given_by given more)) (fold step state more).keys
  given_from state [] given made are all = all
  given_from state (entry ∷ more) given made are all =
      given_from (step state entry) more (then_given given entry.what) made.1 (rows_after state.entries entry.time entry.what state.keys made.0 are)
      (given_after state.entries entry.time entry.what state.keys given made.0 are all)

  -- ---- the last entry that names the tag

  abbrev AreSilent : List Entry → Type 0
  AreSilent entries = All (λ (later : Entry). gives id tag later.what ≡ None) entries

  which : (given : Option (Option (List ℕ))) (history : List Entry) (value : Option (List ℕ)) → given_by given history ≡ Some value → IsLastGiven history id tag value ⊎ (AreSilent history × (given ≡ Some value))
  which given [] value e = inr ((λ k d lt. absurd (omega (arith, lt))), e)
  which given (entry ∷ more) value e = by_later (which (then_given given entry.what) more value e)
    where
      by_entry : (g : Option (Option (List ℕ))) → gives id tag entry.what ≡ g → AreSilent more → option_or g given ≡ Some value
          → IsLastGiven (entry ∷ more) id tag value ⊎ (AreSilent (entry ∷ more) × (given ≡ Some value))
      by_entry None is silent same = inr (All-cons (λ (later : Entry). gives id tag later.what ≡ None) entry more is silent, same)
      by_entry (Some other) is silent same = inl (record { front = []; entry = entry; back = more; is = refl; given = is ∙ same; silent = silent })

      by_later : IsLastGiven more id tag value ⊎ (AreSilent more × (then_given given entry.what ≡ Some value)) → IsLastGiven (entry ∷ more) id tag value ⊎ (AreSilent (entry ∷ more) × (given ≡ Some value))
      by_later (inl last) = inl (record { front = entry ∷ last.front; entry = last.entry; back = last.back; is = ap (λ l. entry ∷ l) last.is; given = last.given; silent = last.silent })
      by_later (inr rest) = by_entry (gives id tag entry.what) refl rest.0 rest.1

pub last_given : TagsAreTheLastGiven
last_given history id row tag made found =
    let all = given_from id tag nothing_yet history None made (no_rows 0 [] refl) (λ k d lt is. absurd (omega (arith, lt))) in
    let is : given_by id tag None history ≡ Some (value_at by_bytes row.tags tag) = found_all (Has id tag (given_by id tag None history)) (replay history).keys id row found all (found_key (replay history).keys id row found) in
    by_which (which id tag None history (value_at by_bytes row.tags tag) is)
  where
    by_which : IsLastGiven history id tag (value_at by_bytes row.tags tag) ⊎ (AreSilent id tag history × (None ≡ Some (value_at by_bytes row.tags tag))) → IsLastGiven history id tag (value_at by_bytes row.tags tag)
    by_which (inl last) = last
    by_which (inr rest) = absurd (let no = rest.1 in cc)
