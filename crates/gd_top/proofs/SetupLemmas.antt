-- What the bytes that are taken of a setup's file say of the file.
use Rattle.std.proofs.Common.{◌≡◌, ◌⊎◌, inl, inr, ⊎_elim, ◌∙◌, sym, ap, subst, refl, ℕ, ◌+◌, ◌<◌, ◌≤◌, nat_lt, Bool, true, false, List, ◌++◌, length, length-append, Option, None, Some, IfSome, arith}
use Rattle.std.proofs.KnownBytes.{Consumes-whole}
use Rattle.std.proofs.lemmas.Bool.Decides.{nat_tests}
use Rattle.std.specs.Io.KnownBytes.{Consumes, IsAtEnd}
use Rattle.gd_base.specs.declared.setup.Setup.{Setup}
use Rattle.gd_games.proofs.Documents.{too_long}
use Rattle.gd_games.specs.File.{fault_in, setup_fault, IsSetupOf}
use Rattle.gd_games.specs.declared.fault.SetupFault.{SetupFault}
use Rattle.gd_games.specs.declared.limits.TheConstants.{MOST_FILE_LEN}
use Rattle.gd_top.specs.Claims.Setups.{IsGiven}
use Rattle.gd_top.specs.declared.command.setup.TheConstants.{MOST_TAKEN}

-- what was taken with one piece more
pub longer : (bytes piece : List ℕ) (n : ℕ) → n ≡ length piece → length bytes + n ≤ MOST_TAKEN → length (bytes ++ piece) ≤ MOST_TAKEN
longer bytes piece n is few = omega (arith, length-append bytes piece, is, few)

-- few enough for a setup, or too many
by_test : (b : Bool) (P Q : Type 0) → (b ≡ true → P) → (b ≡ false → Q) → P ⊎ Q
by_test true P Q f h = inl (f refl)
by_test false P Q f h = inr (h refl)

by_length : (n : ℕ) → (n < MOST_TAKEN) ⊎ (MOST_FILE_LEN < n)
by_length n = by_test (nat_lt n MOST_TAKEN) (n < MOST_TAKEN) (MOST_FILE_LEN < n) (λ few. grind (arith, nat_tests, few)) (λ many. grind (arith, nat_tests, many))

-- bytes that are too many are refused as no text
refused_as_text : (bytes : List ℕ) → MOST_FILE_LEN < length bytes → setup_fault bytes ≡ Some SetupFault.Text
refused_as_text bytes long = ap fault_in (too_long bytes long)

-- a setup has few enough
setup_is_few : (bytes : List ℕ) (s : Setup) → IsSetupOf bytes s → length bytes < MOST_TAKEN
setup_is_few bytes s is = ⊎_elim (λ few. few) (λ long. absurd (cc (too_long bytes long, is.is))) (by_length (length bytes))

module _ (left later : Option (List ℕ)) (bytes : List ℕ) (taken : Consumes left later bytes) (end : length bytes < MOST_TAKEN → IsAtEnd later) where
  -- few bytes are all
  whole : length bytes < MOST_TAKEN → IfSome left (λ all. all ≡ bytes)
  whole few = Consumes-whole left later bytes (λ all. all ≡ bytes) taken (end few) refl

  pub given : (s : Setup) → IsSetupOf bytes s → IsGiven true left s
  given s is = (bytes, whole (setup_is_few bytes s is), is)

  pub refused : (fault : SetupFault) → setup_fault bytes ≡ Some fault → (b : List ℕ) × IfSome left (λ all. all ≡ b) × (setup_fault b ≡ Some fault)
  refused fault is = ⊎_elim (λ few. (bytes, whole few, is)) (λ long. by_source left later taken long) (by_length (length bytes))
    where
      by_source : (l r : Option (List ℕ)) → Consumes l r bytes → MOST_FILE_LEN < length bytes → (b : List ℕ) × IfSome l (λ all. all ≡ b) × (setup_fault b ≡ Some fault)
      by_source None r t long = (bytes, tt, is)
      by_source (Some all) None t long = absurd t
      by_source (Some all) (Some rest) t long =
          let longer : MOST_FILE_LEN < length all = subst (λ (x : List ℕ). MOST_FILE_LEN < length x) (sym t) (omega (arith, long, length-append bytes rest)) in
          (all, refl, refused_as_text all longer ∙ sym (refused_as_text bytes long) ∙ is)
