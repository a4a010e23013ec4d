-- An entry is what is read of its line's JSON value.
use Rattle.std.proofs.Common.{◌≡◌, ℕ, List, codes, Bool, true, false, Option, Some, None, nat_lt, IsUtf8, refl, ap, ◌∙◌}
use Rattle.std.specs.Option.{option_map, option_and_then}
use Rattle.std.proofs.lemmas.Bool.{lt-ltb}
use Rattle.kms_names.specs.Principal.{IsPrincipal}
use Rattle.kms_names.specs.Reading.{some_if}
use Rattle.kms_names.specs.declared.principals.Principal.{Principal}
use Rattle.enc_context.specs.declared.pairs.Pair.{Pair}
use Rattle.grant_table.specs.declared.constraints.Constraint.{Constraint}
use Rattle.grant_table.specs.declared.constraints.Constraint.TheVariants.{Free, Equals, Subset}
use Rattle.serde_json.specs.Data.{object}
use Rattle.serde_json.specs.Find.{as_str}
use Rattle.kms_json.specs.Objects.{number_data}
use Rattle.account_rows.specs.declared.entries.Entry.{Entry}
use Rattle.account_rows.specs.declared.entries.What.{What}
use Rattle.account_rows.specs.declared.entries.What.TheVariants as what
use Rattle.journal_lines.specs.Values.{base64_data, principal_data, context_data, equals_data, subset_data}
use Rattle.journal_lines.specs.Lines.{entry_members, entry_data}
use Rattle.journal_lines.specs.Forms.{IsWhat, IsEntry, IsSmall, IsIfAny, IsConstraint, IsContextOfTexts}
use Rattle.journal_lines.specs.Readings.{at, read_if, text_in, number_in, small_in, context_in, principal_in}
use Rattle.journal_lines.specs.Contexts.{context_of}
use Rattle.journal_lines.specs.Entries.{◌>>=◌, constraint_by, grant_add_of, what_of, entry_in}
use Rattle.journal_lines.proofs.ContextFacts.{context_of_read, encoding_bytes}
use Rattle.journal_lines.proofs.FormFacts.{alias_utf8, principal_utf8}
use Rattle.journal_lines.proofs.ReadFacts.{bytes_read, id_read, text_read, alias_read, principal_read, kind_read, tags_read, texts_read}
use Rattle.journal_lines.proofs.SetFacts.{operations_read}

small_test : (n : ℕ) (b : Bool) → b ≡ true → some_if b n ≡ Some n
small_test n true e = refl
small_test n false e = cc

small_read : (n : ℕ) → IsSmall n → small_in (number_data n) ≡ Some n
small_read n small = small_test n (nat_lt n 4294967296) (lt-ltb n 4294967296 small)

context_read : (pairs : List Pair) → IsContextOfTexts pairs → context_in (context_data pairs) ≡ Some pairs
context_read pairs form =
    ap (λ (o : Option (List ℕ)). option_and_then context_of o) (bytes_read _ (encoding_bytes pairs form.1)) ∙ context_of_read pairs form

-- ---- what has several parts

two : {A B : Type 0} (made : A → B → What) (o : Option A) (p : Option B) (a : A) (b : B) → o ≡ Some a → p ≡ Some b
    → (o >>= λ a. p >>= λ b. Some (made a b)) ≡ Some (made a b)
two made o p a b e f = rw (e, f)

three : {A B C : Type 0} (made : A → B → C → What) (o : Option A) (p : Option B) (q : Option C) (a : A) (b : B) (c : C) → o ≡ Some a → p ≡ Some b → q ≡ Some c
    → (o >>= λ a. p >>= λ b. q >>= λ c. Some (made a b c)) ≡ Some (made a b c)
three made o p q a b c e f g = rw (e, f, g)

five : {A B C D E : Type 0} (made : A → B → C → D → E → What) (o : Option A) (p : Option B) (q : Option C) (r : Option D) (s : Option E) (a : A) (b : B) (c : C) (d : D) (x : E)
    → o ≡ Some a → p ≡ Some b → q ≡ Some c → r ≡ Some d → s ≡ Some x
    → (o >>= λ a. p >>= λ b. q >>= λ c. r >>= λ d. s >>= λ x. Some (made a b c d x)) ≡ Some (made a b c d x)
five made o p q r s a b c d x e f g h k = rw (e, f, g, h, k)

alone : {A : Type 0} (made : A → What) (o : Option A) (a : A) → o ≡ Some a → option_map made o ≡ Some (made a)
alone made o a e = ap (λ (o : Option _). option_map made o) e

-- ---- grants

retiring_read : (retiring : Option Principal) → IsIfAny IsPrincipal retiring → read_if principal_in (option_map principal_data retiring) ≡ Some retiring
retiring_read None h = refl
retiring_read (Some p) h = ap (λ (o : Option Principal). option_map Some o) (principal_read p h (principal_utf8 p h))

name_read : (name : Option (List ℕ)) → IsIfAny IsUtf8 name → read_if text_in (option_map base64_data name) ≡ Some name
name_read None h = refl
name_read (Some name) h = ap (λ (o : Option (List ℕ)). option_map Some o) (text_read name h)

abbrev equals_of : Constraint → Option (List Pair)
equals_of Free = None
equals_of (Equals pairs) = Some pairs
equals_of (Subset pairs) = None

abbrev subset_of : Constraint → Option (List Pair)
subset_of Free = None
subset_of (Equals pairs) = None
subset_of (Subset pairs) = Some pairs

equals_read : (c : Constraint) → IsConstraint c → read_if context_in (equals_data c) ≡ Some (equals_of c)
equals_read Free h = refl
equals_read (Equals pairs) h = ap (λ (o : Option (List Pair)). option_map Some o) (context_read pairs h)
equals_read (Subset pairs) h = refl

subset_read : (c : Constraint) → IsConstraint c → read_if context_in (subset_data c) ≡ Some (subset_of c)
subset_read Free h = refl
subset_read (Equals pairs) h = refl
subset_read (Subset pairs) h = ap (λ (o : Option (List Pair)). option_map Some o) (context_read pairs h)

abbrev terms_of : Option Principal → Constraint → Option (List ℕ) → Option Principal × Constraint × Option (List ℕ)
terms_of retiring constraint name = (retiring, constraint, name)

grant_made : (o : Option (List ℕ)) (p : Option (List ℕ)) (q : Option Principal) (r : Option ℕ) (s : Option (Option Principal)) (t u : Option (Option (List Pair))) (v : Option (Option (List ℕ)))
    (grant key : List ℕ) (grantee : Principal) (operations : ℕ) (retiring : Option Principal) (equals subset : Option (List Pair)) (constraint : Constraint) (name : Option (List ℕ))
    → o ≡ Some grant → p ≡ Some key → q ≡ Some grantee → r ≡ Some operations → s ≡ Some retiring → t ≡ Some equals → u ≡ Some subset → constraint_by equals subset ≡ Some constraint → v ≡ Some name
    → (o >>= λ grant. p >>= λ key. q >>= λ grantee. r >>= λ operations.
    (s >>= λ retiring. (t >>= λ equals. u >>= λ subset. constraint_by equals subset) >>= λ constraint. v >>= λ name. Some (terms_of retiring constraint name))
    >>= λ terms. Some (what.GrantAdd grant key grantee terms.0 operations terms.1 terms.2))
    ≡ Some (what.GrantAdd grant key grantee retiring operations constraint name)
grant_made o p q r s t u v grant key grantee operations retiring equals subset constraint name e1 e2 e3 e4 e5 e6 e7 e8 e9 = rw (e1, e2, e3, e4, e5, e6, e7, e8, e9)

grant_read : (time : ℕ) (grant key : List ℕ) (grantee : Principal) (retiring : Option Principal) (operations : ℕ) (constraint : Constraint) (name : Option (List ℕ))
    → IsWhat (what.GrantAdd grant key grantee retiring operations constraint name)
    → grant_add_of (object (entry_members time (what.GrantAdd grant key grantee retiring operations constraint name))) ≡ Some (what.GrantAdd grant key grantee retiring operations constraint name)
grant_read time grant key grantee None operations Free None h =
    grant_made _ _ _ _ _ _ _ _ grant key grantee operations None (equals_of Free) (subset_of Free) Free None
    (id_read 32 grant h.0) (id_read 16 key h.1) (principal_read grantee h.2 (principal_utf8 grantee h.2)) (operations_read operations h.4)
    (retiring_read None h.3) (equals_read Free h.5) (subset_read Free h.5) refl (name_read None h.6)
grant_read time grant key grantee None operations Free (Some name) h =
    grant_made _ _ _ _ _ _ _ _ grant key grantee operations None (equals_of Free) (subset_of Free) Free (Some name)
    (id_read 32 grant h.0) (id_read 16 key h.1) (principal_read grantee h.2 (principal_utf8 grantee h.2)) (operations_read operations h.4)
    (retiring_read None h.3) (equals_read Free h.5) (subset_read Free h.5) refl (name_read (Some name) h.6)
grant_read time grant key grantee None operations (Equals pairs) None h =
    grant_made _ _ _ _ _ _ _ _ grant key grantee operations None (equals_of (Equals pairs)) (subset_of (Equals pairs)) (Equals pairs) None
    (id_read 32 grant h.0) (id_read 16 key h.1) (principal_read grantee h.2 (principal_utf8 grantee h.2)) (operations_read operations h.4)
    (retiring_read None h.3) (equals_read (Equals pairs) h.5) (subset_read (Equals pairs) h.5) refl (name_read None h.6)
grant_read time grant key grantee None operations (Equals pairs) (Some name) h =
    grant_made _ _ _ _ _ _ _ _ grant key grantee operations None (equals_of (Equals pairs)) (subset_of (Equals pairs)) (Equals pairs) (Some name)
    (id_read 32 grant h.0) (id_read 16 key h.1) (principal_read grantee h.2 (principal_utf8 grantee h.2)) (operations_read operations h.4)
    (retiring_read None h.3) (equals_read (Equals pairs) h.5) (subset_read (Equals pairs) h.5) refl (name_read (Some name) h.6)
grant_read time grant key grantee None operations (Subset pairs) None h =
    grant_made _ _ _ _ _ _ _ _ grant key grantee operations None (equals_of (Subset pairs)) (subset_of (Subset pairs)) (Subset pairs) None
    (id_read 32 grant h.0) (id_read 16 key h.1) (principal_read grantee h.2 (principal_utf8 grantee h.2)) (operations_read operations h.4)
    (retiring_read None h.3) (equals_read (Subset pairs) h.5) (subset_read (Subset pairs) h.5) refl (name_read None h.6)
grant_read time grant key grantee None operations (Subset pairs) (Some name) h =
    grant_made _ _ _ _ _ _ _ _ grant key grantee operations None (equals_of (Subset pairs)) (subset_of (Subset pairs)) (Subset pairs) (Some name)
    (id_read 32 grant h.0) (id_read 16 key h.1) (principal_read grantee h.2 (principal_utf8 grantee h.2)) (operations_read operations h.4)
    (retiring_read None h.3) (equals_read (Subset pairs) h.5) (subset_read (Subset pairs) h.5) refl (name_read (Some name) h.6)
grant_read time grant key grantee (Some by) operations Free None h =
    grant_made _ _ _ _ _ _ _ _ grant key grantee operations (Some by) (equals_of Free) (subset_of Free) Free None
    (id_read 32 grant h.0) (id_read 16 key h.1) (principal_read grantee h.2 (principal_utf8 grantee h.2)) (operations_read operations h.4)
    (retiring_read (Some by) h.3) (equals_read Free h.5) (subset_read Free h.5) refl (name_read None h.6)
grant_read time grant key grantee (Some by) operations Free (Some name) h =
    grant_made _ _ _ _ _ _ _ _ grant key grantee operations (Some by) (equals_of Free) (subset_of Free) Free (Some name)
    (id_read 32 grant h.0) (id_read 16 key h.1) (principal_read grantee h.2 (principal_utf8 grantee h.2)) (operations_read operations h.4)
    (retiring_read (Some by) h.3) (equals_read Free h.5) (subset_read Free h.5) refl (name_read (Some name) h.6)
grant_read time grant key grantee (Some by) operations (Equals pairs) None h =
    grant_made _ _ _ _ _ _ _ _ grant key grantee operations (Some by) (equals_of (Equals pairs)) (subset_of (Equals pairs)) (Equals pairs) None
    (id_read 32 grant h.0) (id_read 16 key h.1) (principal_read grantee h.2 (principal_utf8 grantee h.2)) (operations_read operations h.4)
    (retiring_read (Some by) h.3) (equals_read (Equals pairs) h.5) (subset_read (Equals pairs) h.5) refl (name_read None h.6)
grant_read time grant key grantee (Some by) operations (Equals pairs) (Some name) h =
    grant_made _ _ _ _ _ _ _ _ grant key grantee operations (Some by) (equals_of (Equals pairs)) (subset_of (Equals pairs)) (Equals pairs) (Some name)
    (id_read 32 grant h.0) (id_read 16 key h.1) (principal_read grantee h.2 (principal_utf8 grantee h.2)) (operations_read operations h.4)
    (retiring_read (Some by) h.3) (equals_read (Equals pairs) h.5) (subset_read (Equals pairs) h.5) refl (name_read (Some name) h.6)
grant_read time grant key grantee (Some by) operations (Subset pairs) None h =
    grant_made _ _ _ _ _ _ _ _ grant key grantee operations (Some by) (equals_of (Subset pairs)) (subset_of (Subset pairs)) (Subset pairs) None
    (id_read 32 grant h.0) (id_read 16 key h.1) (principal_read grantee h.2 (principal_utf8 grantee h.2)) (operations_read operations h.4)
    (retiring_read (Some by) h.3) (equals_read (Subset pairs) h.5) (subset_read (Subset pairs) h.5) refl (name_read None h.6)
grant_read time grant key grantee (Some by) operations (Subset pairs) (Some name) h =
    grant_made _ _ _ _ _ _ _ _ grant key grantee operations (Some by) (equals_of (Subset pairs)) (subset_of (Subset pairs)) (Subset pairs) (Some name)
    (id_read 32 grant h.0) (id_read 16 key h.1) (principal_read grantee h.2 (principal_utf8 grantee h.2)) (operations_read operations h.4)
    (retiring_read (Some by) h.3) (equals_read (Subset pairs) h.5) (subset_read (Subset pairs) h.5) refl (name_read (Some name) h.6)

-- ---- the whole

-- the name of what was done
abbrev name_of : What → List ℕ
name_of (what.CreateKey key kind description policy tags) = codes "CreateKey"
name_of (what.Enable key) = codes "Enable"
name_of (what.Disable key) = codes "Disable"
name_of (what.Schedule key date days) = codes "Schedule"
name_of (what.Cancel key) = codes "Cancel"
name_of (what.RotationOn key period) = codes "RotationOn"
name_of (what.RotationOff key) = codes "RotationOff"
name_of (what.RotateNow key) = codes "RotateNow"
name_of (what.Policy key text) = codes "Policy"
name_of (what.Description key text) = codes "Description"
name_of (what.Tag key tags) = codes "Tag"
name_of (what.Untag key keys) = codes "Untag"
name_of (what.AliasPut name key) = codes "AliasPut"
name_of (what.AliasDrop name) = codes "AliasDrop"
name_of (what.GrantAdd grant key grantee retiring operations constraint name) = codes "GrantAdd"
name_of (what.GrantDrop grant) = codes "GrantDrop"
name_of what.House = codes "House"

what_read : (time : ℕ) (w : What) → IsWhat w → what_of (name_of w) (object (entry_members time w)) ≡ Some w
unfolding what_of
what_read time (what.CreateKey key kind description policy tags) h =
    five what.CreateKey _ _ _ _ _ key kind description policy tags (id_read 16 key h.0) (kind_read kind) (text_read description h.1) (text_read policy h.2) (tags_read tags h.3)
what_read time (what.Enable key) h = alone what.Enable _ key (id_read 16 key h)
what_read time (what.Disable key) h = alone what.Disable _ key (id_read 16 key h)
what_read time (what.Schedule key date days) h = three what.Schedule _ _ _ key date days (id_read 16 key h.0) refl (small_read days h.2)
what_read time (what.Cancel key) h = alone what.Cancel _ key (id_read 16 key h)
what_read time (what.RotationOn key period) h = two what.RotationOn _ _ key period (id_read 16 key h.0) (small_read period h.1)
what_read time (what.RotationOff key) h = alone what.RotationOff _ key (id_read 16 key h)
what_read time (what.RotateNow key) h = alone what.RotateNow _ key (id_read 16 key h)
what_read time (what.Policy key text) h = two what.Policy _ _ key text (id_read 16 key h.0) (text_read text h.1)
what_read time (what.Description key text) h = two what.Description _ _ key text (id_read 16 key h.0) (text_read text h.1)
what_read time (what.Tag key tags) h = two what.Tag _ _ key tags (id_read 16 key h.0) (tags_read tags h.1)
what_read time (what.Untag key keys) h = two what.Untag _ _ key keys (id_read 16 key h.0) (texts_read keys h.1)
what_read time (what.AliasPut name key) h = two what.AliasPut _ _ name key (alias_read name h.0 (alias_utf8 name h.0)) (id_read 16 key h.1)
what_read time (what.AliasDrop name) h = alone what.AliasDrop _ name (alias_read name h (alias_utf8 name h))
what_read time (what.GrantAdd grant key grantee retiring operations constraint name) h = grant_read time grant key grantee retiring operations constraint name h
what_read time (what.GrantDrop grant) h = alone what.GrantDrop _ grant (id_read 32 grant h)
what_read time what.House h = refl

time_read : (time : ℕ) (w : What) → at number_in (codes "time") (object (entry_members time w)) ≡ Some time
time_read time (what.CreateKey key kind description policy tags) = refl
time_read time (what.Enable key) = refl
time_read time (what.Disable key) = refl
time_read time (what.Schedule key date days) = refl
time_read time (what.Cancel key) = refl
time_read time (what.RotationOn key period) = refl
time_read time (what.RotationOff key) = refl
time_read time (what.RotateNow key) = refl
time_read time (what.Policy key text) = refl
time_read time (what.Description key text) = refl
time_read time (what.Tag key tags) = refl
time_read time (what.Untag key keys) = refl
time_read time (what.AliasPut name key) = refl
time_read time (what.AliasDrop name) = refl
time_read time (what.GrantAdd grant key grantee None operations Free None) = refl
time_read time (what.GrantAdd grant key grantee None operations Free (Some name)) = refl
time_read time (what.GrantAdd grant key grantee None operations (Equals pairs) None) = refl
time_read time (what.GrantAdd grant key grantee None operations (Equals pairs) (Some name)) = refl
time_read time (what.GrantAdd grant key grantee None operations (Subset pairs) None) = refl
time_read time (what.GrantAdd grant key grantee None operations (Subset pairs) (Some name)) = refl
time_read time (what.GrantAdd grant key grantee (Some by) operations Free None) = refl
time_read time (what.GrantAdd grant key grantee (Some by) operations Free (Some name)) = refl
time_read time (what.GrantAdd grant key grantee (Some by) operations (Equals pairs) None) = refl
time_read time (what.GrantAdd grant key grantee (Some by) operations (Equals pairs) (Some name)) = refl
time_read time (what.GrantAdd grant key grantee (Some by) operations (Subset pairs) None) = refl
time_read time (what.GrantAdd grant key grantee (Some by) operations (Subset pairs) (Some name)) = refl
time_read time (what.GrantDrop grant) = refl
time_read time what.House = refl

name_at : (time : ℕ) (w : What) → at as_str (codes "what") (object (entry_members time w)) ≡ Some (name_of w)
name_at time (what.CreateKey key kind description policy tags) = refl
name_at time (what.Enable key) = refl
name_at time (what.Disable key) = refl
name_at time (what.Schedule key date days) = refl
name_at time (what.Cancel key) = refl
name_at time (what.RotationOn key period) = refl
name_at time (what.RotationOff key) = refl
name_at time (what.RotateNow key) = refl
name_at time (what.Policy key text) = refl
name_at time (what.Description key text) = refl
name_at time (what.Tag key tags) = refl
name_at time (what.Untag key keys) = refl
name_at time (what.AliasPut name key) = refl
name_at time (what.AliasDrop name) = refl
name_at time (what.GrantAdd grant key grantee None operations Free None) = refl
name_at time (what.GrantAdd grant key grantee None operations Free (Some name)) = refl
name_at time (what.GrantAdd grant key grantee None operations (Equals pairs) None) = refl
name_at time (what.GrantAdd grant key grantee None operations (Equals pairs) (Some name)) = refl
name_at time (what.GrantAdd grant key grantee None operations (Subset pairs) None) = refl
name_at time (what.GrantAdd grant key grantee None operations (Subset pairs) (Some name)) = refl
name_at time (what.GrantAdd grant key grantee (Some by) operations Free None) = refl
name_at time (what.GrantAdd grant key grantee (Some by) operations Free (Some name)) = refl
name_at time (what.GrantAdd grant key grantee (Some by) operations (Equals pairs) None) = refl
name_at time (what.GrantAdd grant key grantee (Some by) operations (Equals pairs) (Some name)) = refl
name_at time (what.GrantAdd grant key grantee (Some by) operations (Subset pairs) None) = refl
name_at time (what.GrantAdd grant key grantee (Some by) operations (Subset pairs) (Some name)) = refl
name_at time (what.GrantDrop grant) = refl
name_at time what.House = refl

abbrev dated : ℕ → What → Entry
dated time w = record { time = time; what = w }

made : (o : Option ℕ) (p : Option (List ℕ)) (q : List ℕ → Option What) (time : ℕ) (name : List ℕ) (w : What) → o ≡ Some time → p ≡ Some name → q name ≡ Some w
    → (o >>= λ time. p >>= λ name. q name >>= λ w. Some (dated time w)) ≡ Some (dated time w)
made o p q time name w e f g = rw (e, f, g)

pub entry_read : (entry : Entry) → IsEntry entry → entry_in (entry_data entry) ≡ Some entry
unfolding entry_in
entry_read entry h =
    made _ _ (λ name. what_of name (entry_data entry)) entry.time (name_of entry.what) entry.what (time_read entry.time entry.what) (name_at entry.time entry.what) (what_read entry.time entry.what h.1)
