use Rattle.std.proofs.Common.{◌≡◌, ◌+◌, ◌∙◌, max, sym, ap, ℕ}
use Rattle.std.specs.Prelude.{option_map, slice_get, unwrap_or}
use Rattle.key_states.specs.declared.versions.Version.{Version}
use Rattle.account_lists.proofs.ListFacts.{rotation_behind}
use Rattle.account_lists.proofs.listings.RotationsOfListing.behind.Goals as goal

pub returns : goal.returns
returns c =
    let versions = c.args.self.now.row.now.versions in
    let place : c.max.result ≡ max (unwrap_or c.args.after 1) 1 = c.max.ensures ∙ ap (λ (n : ℕ). max n 1) c.unwrap_or.ensures in
    c.version_at.ensures
    ∙ ap (λ (n : ℕ). option_map (λ (version : Version). record { number = n + 1; version = version }) (slice_get versions n)) place
    ∙ sym (rotation_behind c.args.after versions)
