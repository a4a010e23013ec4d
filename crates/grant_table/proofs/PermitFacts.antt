-- The test of what a grant permits decides what it permits.
use Rattle.std.proofs.Common.{◌≡◌, Bor, ℕ, Bool, true, false, not, ◌&&◌, ◌||◌, List, get_or, Option, None, Some, refl, ap, sym, ◌∙◌}
use Rattle.std.specs.Prelude.{find, All, IfSome, IfNone}
use Rattle.std.specs.Bool.{Decides}
use Rattle.std.specs.Option.{option_map}
use Rattle.std.specs.Str.{bytes_eq}
use Rattle.std.proofs.lemmas.Bool.{false≢true}
use Rattle.std.proofs.lemmas.List.Elements.{All-from_recursion}
use Rattle.std.proofs.lemmas.Bool.Decides.{Decides-and, Decides-like}
use Rattle.std.proofs.lemmas.Slice.Eq.{bytes_eq-Decides}
use Rattle.kms_names.specs.GrantOps.{contains}
use Rattle.kms_names.specs.declared.operations.GrantOp.{GrantOp}
use Rattle.kms_names.specs.declared.principals.Principal.{Principal}
use Rattle.kms_names.specs.declared.principals.Principal.TheVariants.{Root, User, Role}
use Rattle.enc_context.specs.declared.pairs.Pair.{Pair}
use Rattle.enc_context.proofs.PairFacts.{includes_decides, same_pairs_decides}
use Rattle.grant_table.specs.Constraints.{ConstraintHolds, constraint_holds}
use Rattle.grant_table.specs.Grants.{asks_constraint, Permits, permits}
use Rattle.grant_table.specs.Principals.{same_principal}
use Rattle.grant_table.specs.declared.constraints.Constraint.{Constraint}
use Rattle.grant_table.specs.declared.constraints.Constraint.TheVariants.{Free, Equals, Subset}
use Rattle.grant_table.specs.declared.rows.GrantRow.{GrantRow}
use Rattle.grant_table.proofs.Lists.{found_passes, none_passes}

never : {P : Type 0} → (P → false ≡ true) → Decides false P
never none = ((λ t. absurd (cc)), none)

two_texts : (a b m n : List ℕ) → Decides (bytes_eq a b && bytes_eq m n) ((a ≡ b) × (m ≡ n))
two_texts a b m n = Decides-and (bytes_eq a b) (bytes_eq m n) (bytes_eq-Decides a b) (bytes_eq-Decides m n)

pub principal_decides : (p q : Principal) → Decides (same_principal p q) (p ≡ q)
principal_decides (Root a) (Root b) = Decides-like (bytes_eq a b) (λ e. ap Root e) (λ e. cc) (bytes_eq-Decides a b)
principal_decides (Root a) (User b n) = never (λ e. cc)
principal_decides (Root a) (Role b n) = never (λ e. cc)
principal_decides (User a m) (Root b) = never (λ e. cc)
principal_decides (User a m) (User b n) = Decides-like (bytes_eq a b && bytes_eq m n) (λ e. cc) (λ e. (cc, cc)) (two_texts a b m n)
principal_decides (User a m) (Role b n) = never (λ e. cc)
principal_decides (Role a m) (Root b) = never (λ e. cc)
principal_decides (Role a m) (User b n) = never (λ e. cc)
principal_decides (Role a m) (Role b n) = Decides-like (bytes_eq a b && bytes_eq m n) (λ e. cc) (λ e. (cc, cc)) (two_texts a b m n)

pub constraint_decides : (c : Constraint) (context : List Pair) → Decides (constraint_holds c context) (ConstraintHolds c context)
constraint_decides Free context = ((λ t. tt), (λ t. refl))
constraint_decides (Equals pairs) context = same_pairs_decides context pairs
constraint_decides (Subset pairs) context = includes_decides context pairs

where_asked : {P : Type 0} (asks test : Bool) → Decides test P → Decides (not asks || test) (asks ≡ true → P)
where_asked true test (to, back) = ((λ t asked. to t), (λ h. back (h refl)))
where_asked false test (to, back) = ((λ t asked. absurd (cc)), (λ h. refl))

pub permits_decides : (key : List ℕ) (caller : Principal) (op : GrantOp) (context : List Pair) (row : GrantRow) → Decides (permits key caller op context row) (Permits row key caller op context)
permits_decides key caller op context row =
    Decides-like (permits key caller op context row) (λ h. (h.0, h.1.0, h.1.1.0, h.1.1.1)) (λ h. (h.0, (h.1, (h.2, h.3))))
    (Decides-and (bytes_eq row.key key) _ (bytes_eq-Decides row.key key)
    (Decides-and (same_principal row.grantee caller) _ (principal_decides row.grantee caller)
    (Decides-and (contains row.operations op) _ ((λ t. t), (λ t. t))
    (where_asked (asks_constraint op) (constraint_holds row.constraint context) (constraint_decides row.constraint context)))))

module _ (rows : List GrantRow) (key : List ℕ) (caller : Principal) (op : GrantOp) (context : List Pair) where
  pub permits_found : (r : Option (Bor GrantRow)) → option_map (λ (row : Bor GrantRow). row.now) r ≡ find (permits key caller op context) rows → IfSome r (λ row. Permits row.now key caller op context)
  permits_found None found = tt
  permits_found (Some row) found = (permits_decides key caller op context row.now).0 (found_passes (permits key caller op context) rows row.now (sym found))

  pub none_permits : (r : Option (Bor GrantRow)) → option_map (λ (row : Bor GrantRow). row.now) r ≡ find (permits key caller op context) rows → IfNone r (All (λ row. ¬ (Permits row key caller op context)) rows)
  none_permits None none =
      λ k d lt h. false≢true (sym (All-from_recursion (λ row. permits key caller op context row ≡ false) rows (none_passes (permits key caller op context) rows (sym none)) k d lt) ∙ (permits_decides key caller op context (get_or rows k d)).1 h)
  none_permits (Some row) found = tt
