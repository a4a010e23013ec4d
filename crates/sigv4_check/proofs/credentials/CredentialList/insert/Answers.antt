use Rattle.std.proofs.Common.{◌≡◌, ◌∙◌, sym, ap, ap₂, subst, arith, ℕ, List, length}
use Rattle.std.specs.List.{insert, position_or_len}
use Rattle.sigv4_check.specs.declared.credentials.Credential.{Credential}
use Rattle.sigv4_check.specs.Credentials.{AreDistinct, placed, stands_behind, has_id}
use Rattle.sigv4_check.proofs.CredentialFacts.{placed_distinct, inserted, place_within}
use Rattle.sigv4_check.proofs.credentials.CredentialList.insert.Goals as goal

place_by : (place : ℕ) (id text word : List ℕ) (creds items : List Credential) → place ≡ position_or_len (stands_behind word) creds → word ≡ text → text ≡ id → creds ≡ items
    → place ≡ position_or_len (stands_behind id) items
place_by place id text word creds items e one two three = e ∙ ap₂ (λ (w : List ℕ) cs. position_or_len (stands_behind w) cs) (one ∙ two) three

pub insert-requires : goal.insert-requires
insert-requires c =
    let is = place_by c.place_of-place.result c.args.credential.id _ _ _ c.self.inside.items.items c.place_of-place.ensures c.as_bytes.ensures.value c.as_str.ensures.value c.deref.ensures.value in
    let within = place_within (stands_behind c.args.credential.id) c.self.inside.items.items in
    omega (arith, is, within, c.deref.ensures.len, ap length c.deref.ensures.value)

module _ (c : goal.In_ok-insert) where
  made : c.insert.new.self.items ≡ placed c.args.credential c.self.inside.items.items
  made =
      let is = place_by c.place_of-place.result c.args.credential.id _ _ _ c.self.inside.items.items c.place_of-place.ensures c.as_bytes.ensures.value c.as_str.ensures.value c.deref.ensures.value in
      c.in_ok-insert.ensures.items ∙ ap (λ (n : ℕ). insert c.self.inside.items.items n c.args.credential) is ∙ inserted c.args.credential c.self.inside.items.items

pub invariant_of-self-2 : goal.invariant_of-self-2
invariant_of-self-2 c =
    subst AreDistinct (sym (made c))
    (placed_distinct c.args.credential c.self.inside.items.items (ap (has_id c.args.credential.id) c.self.view_is ∙ c.requires) c.self.invariant)

pub returns-clause-ok : goal.returns-clause-ok
returns-clause-ok c = made c ∙ ap (placed c.args.credential) c.self.view_is
