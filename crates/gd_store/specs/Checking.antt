-- What is told of a page of both copies.
use Rattle.std.specs.Prelude.{◌≡◌, ℕ, Bool, List}
use Rattle.std.specs.Str.{bytes_eq}
use Rattle.sha2.specs.Sha256.{sha256}
use Rattle.gd_store.specs.Copy.{copy_a, copy_b, page, stored_payload}
use Rattle.gd_store.specs.declared.copy.layout.Layout.{Layout}
use Rattle.gd_store.specs.declared.copy.states.PageState.{PageState}

-- whether page i of a copy has the digest of page i of a payload
abbrev pub has_digest_of : Layout → ℕ → List ℕ → List ℕ → Bool
has_digest_of l i payload copy = bytes_eq (sha256 (page i (stored_payload l copy))) (sha256 (page i payload))

-- the page of each copy is told right
pub record IsChecked (l : Layout) (i : ℕ) (payload : List ℕ) (state : PageState) (image : List ℕ) : Type 0 where
  pub a : state.a ≡ has_digest_of l i payload (copy_a l image)
  pub b : state.b ≡ has_digest_of l i payload (copy_b l image)
