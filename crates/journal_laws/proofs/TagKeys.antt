-- The keys of tags are bytes, so what a marker is read as is the key that it was made of.
use Rattle.std.proofs.Common.{ℕ, Bool, true, false, not, List, [], ◌∷◌, get_or, fold, filter, if◌then◌else◌}
use Rattle.std.specs.Prelude.{All}
use Rattle.std.proofs.lemmas.List.Elements.{All-nil, All-append, All-cons, All-head, All-tail, All-map, All-filter, All-push}
use Rattle.std.specs.Str.{bytes_eq}
use Rattle.hex.specs.Hex.{IsBytes}
use Rattle.persist_map.specs.Pairs.{is_below, is_above, has_key, without_key, with_pair}
use Rattle.resource_tags.specs.declared.tags.Tag.{Tag}
use Rattle.resource_tags.specs.Tags.{Tags, by_bytes, with_tags, without_tags}
use Rattle.key_states.specs.declared.rows.KeyRow.{KeyRow}
use Rattle.key_states.specs.States.{is_due}
use Rattle.account_rows.specs.declared.entries.Entry.{Entry}
use Rattle.account_rows.specs.declared.entries.What.{What}
use Rattle.account_rows.specs.declared.entries.What.TheVariants as what
use Rattle.account_rows.specs.Changes.{new_key, tagged, untagged, changed, rotated, rotated_if_due, is_gone, house_kept, keys_after}
use Rattle.account_rows.specs.History.{State, step, nothing_yet, replay}
use Rattle.account_tags.specs.Pages.{tag_of}
use Rattle.account_tags.proofs.PageFacts.{read_back}
use Rattle.journal_lines.specs.Forms.{IsTag, IsWhat, IsEntry}
use Rattle.journal_lines.proofs.ByteFacts.{from_utf8}
use Rattle.journal_laws.specs.Laws.{TagMarkersAreReadBack, TagMarkersOfOpened, TagMarkersOfLawful}
use Rattle.journal_laws.proofs.Sound.{opened_is_formed, lawful_is_formed}

abbrev HasBytes : List ℕ × List ℕ → Type 0
HasBytes pair = IsBytes pair.0

-- ---- tags that are put and dropped

put : (tags : Tags) (more : List Tag) → All HasBytes tags → All IsTag more → All HasBytes (with_tags tags more)
put tags [] all given = all
put tags (tag ∷ more) all given =
    put (with_pair by_bytes tags tag.key tag.value) more
    (All-append HasBytes (filter (is_below by_bytes tag.key) tags) ((tag.key, tag.value) ∷ filter (is_above by_bytes tag.key) tags) (All-filter (is_below by_bytes tag.key) HasBytes tags all)
    (All-cons HasBytes (tag.key, tag.value) (filter (is_above by_bytes tag.key) tags) (from_utf8 tag.key (All-head IsTag tag more given).0) (All-filter (is_above by_bytes tag.key) HasBytes tags all)))
    (All-tail IsTag tag more given)

dropped : (tags : Tags) (keys : List (List ℕ)) → All HasBytes tags → All HasBytes (without_tags tags keys)
dropped tags [] all = all
dropped tags (key ∷ keys) all = dropped (without_key by_bytes tags key) keys (All-filter (λ pair. not (has_key by_bytes key pair)) HasBytes tags all)

-- ---- one entry, and all

abbrev AreBytes : KeyRow → Type 0
AreBytes row = All HasBytes row.tags

bytes_if : (b : Bool) (row new : KeyRow) → AreBytes row → AreBytes new → AreBytes (if b then new else row)
bytes_if true row new is has = has
bytes_if false row new is has = is

all_changed : (key : List ℕ) (f : KeyRow → KeyRow) → ((row : KeyRow) → AreBytes row → AreBytes (f row)) → (rows : List KeyRow) → All AreBytes rows → All AreBytes (changed key f rows)
all_changed key f keeps rows all =
    All-map AreBytes (λ row. if bytes_eq row.key key then f row else row) rows
    (λ k d lt. bytes_if (bytes_eq (get_or rows k d).key key) (get_or rows k d) (f (get_or rows k d)) (all k d lt) (keeps (get_or rows k d) (all k d lt)))

all_kept : (time : ℕ) (rows : List KeyRow) → All AreBytes rows → All AreBytes (house_kept time rows)
all_kept time rows all =
    All-map AreBytes (rotated_if_due time) (filter (λ row. not (is_gone time row)) rows)
    (λ k d lt. bytes_if (is_due (get_or (filter (λ row. not (is_gone time row)) rows) k d) time) _ (rotated time (get_or (filter (λ row. not (is_gone time row)) rows) k d)) (left k d lt) (left k d lt))
  where
    left : All AreBytes (filter (λ row. not (is_gone time row)) rows)
    left = All-filter (λ row. not (is_gone time row)) AreBytes rows all

after_entry : (n time : ℕ) (w : What) (rows : List KeyRow) → IsWhat w → All AreBytes rows → All AreBytes (keys_after n time w rows)
after_entry n time (what.CreateKey key kind description policy tags) rows is all = All-push AreBytes rows (new_key n time key kind description policy tags) all (put [] tags (All-nil HasBytes) is.3)
after_entry n time (what.Enable key) rows is all = all_changed key _ (λ row has. has) rows all
after_entry n time (what.Disable key) rows is all = all_changed key _ (λ row has. has) rows all
after_entry n time (what.Schedule key date days) rows is all = all_changed key _ (λ row has. has) rows all
after_entry n time (what.Cancel key) rows is all = all_changed key _ (λ row has. has) rows all
after_entry n time (what.RotationOn key period) rows is all = all_changed key _ (λ row has. has) rows all
after_entry n time (what.RotationOff key) rows is all = all_changed key _ (λ row has. has) rows all
after_entry n time (what.RotateNow key) rows is all = all_changed key _ (λ row has. has) rows all
after_entry n time (what.Policy key text) rows is all = all_changed key _ (λ row has. has) rows all
after_entry n time (what.Description key text) rows is all = all_changed key _ (λ row has. has) rows all
after_entry n time (what.Tag key tags) rows is all = all_changed key (tagged tags) (λ row has. put row.tags tags has is.1) rows all
after_entry n time (what.Untag key keys) rows is all = all_changed key (untagged keys) (λ row has. dropped row.tags keys has) rows all
after_entry n time what.House rows is all = all_kept time rows all
after_entry n time _ rows is all = all

after_all : (state : State) (more : List Entry) → All IsEntry more → All AreBytes state.keys → All AreBytes (fold step state more).keys
after_all state [] is all = all
after_all state (entry ∷ more) is all = after_all (step state entry) more (All-tail IsEntry entry more is) (after_entry state.entries entry.time entry.what state.keys (All-head IsEntry entry more is).1 all)

pub tag_markers : TagMarkersAreReadBack
tag_markers history formed k d lt i e within =
    let row = get_or (replay history).keys k d in
    let bytes = after_all nothing_yet history formed (All-nil AreBytes) k d lt i e within in
    read_back (tag_of (get_or row.tags i e)) bytes

pub opened_tag_markers : TagMarkersOfOpened
opened_tag_markers facts front history number sound formed on = tag_markers history (opened_is_formed facts front history number sound formed on).1

pub lawful_tag_markers : TagMarkersOfLawful
lawful_tag_markers facts history number lawful = tag_markers history (lawful_is_formed facts history number lawful)
