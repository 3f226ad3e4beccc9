use Rattle.std.proofs.Common.{◌≡◌, ◌∙◌, sym, ap, ◌+◌, ◌*◌, ◌-◌, ℕ, take, drop, arith}
use Rattle.sha2.specs.Sha256.{sha256}
use Rattle.gd_store.specs.Copy.{part}
use Rattle.gd_store.proofs.Pages.{bad_here, bad_later, bad_none, test_is, differs, agrees}
use Rattle.gd_disk.specs.declared.lengths.TheConstants.{DIGEST_LEN, DIGESTS_AT, FRAME_LEN, PAGE_LEN}
use Rattle.gd_store.proofs.booting.lowest_bad_page.Goals as goal

pub returns-then-ne : goal.returns-then-ne
returns-then-ne c =
    let i = c.loop-i.i in
    let from = FRAME_LEN + DIGEST_LEN * c.args.layout.pages + PAGE_LEN * i in
    let sums : from + PAGE_LEN - from ≡ PAGE_LEN = omega arith in
    let sums_2 : DIGESTS_AT + DIGEST_LEN * i + DIGEST_LEN - (DIGESTS_AT + DIGEST_LEN * i) ≡ DIGEST_LEN = omega arith in
    let digest_is : c.digest-digest.result ≡ sha256 (part from PAGE_LEN c.args.copy.now) = c.digest-digest.ensures ∙ ap (λ (k : ℕ). sha256 (take k (drop from c.args.copy.now))) sums in
    let kept_is : take (DIGESTS_AT + DIGEST_LEN * i + DIGEST_LEN - (DIGESTS_AT + DIGEST_LEN * i)) (drop (DIGESTS_AT + DIGEST_LEN * i) c.args.copy.now) ≡ part (DIGESTS_AT + DIGEST_LEN * i) DIGEST_LEN c.args.copy.now = ap (λ (k : ℕ). take k (drop (DIGESTS_AT + DIGEST_LEN * i) c.args.copy.now)) sums_2 in
    let test = test_is c.args.layout c.args.copy.now i c.args.layout.pages (omega arith) c.digest-digest.result _ digest_is kept_is in
    sym (c.loop-i.invariant ∙ bad_here c.args.layout c.args.copy.now i c.args.layout.pages (omega arith) (differs c.ne.result _ _ c.ne.ensures c.if-ne.true test))

pub loop-i-preserved : goal.loop-i-preserved
loop-i-preserved c =
    let i = c.loop-i.i in
    let from = FRAME_LEN + DIGEST_LEN * c.args.layout.pages + PAGE_LEN * i in
    let sums : from + PAGE_LEN - from ≡ PAGE_LEN = omega arith in
    let sums_2 : DIGESTS_AT + DIGEST_LEN * i + DIGEST_LEN - (DIGESTS_AT + DIGEST_LEN * i) ≡ DIGEST_LEN = omega arith in
    let digest_is : c.digest-digest.result ≡ sha256 (part from PAGE_LEN c.args.copy.now) = c.digest-digest.ensures ∙ ap (λ (k : ℕ). sha256 (take k (drop from c.args.copy.now))) sums in
    let kept_is : take (DIGESTS_AT + DIGEST_LEN * i + DIGEST_LEN - (DIGESTS_AT + DIGEST_LEN * i)) (drop (DIGESTS_AT + DIGEST_LEN * i) c.args.copy.now) ≡ part (DIGESTS_AT + DIGEST_LEN * i) DIGEST_LEN c.args.copy.now = ap (λ (k : ℕ). take k (drop (DIGESTS_AT + DIGEST_LEN * i) c.args.copy.now)) sums_2 in
    let test = test_is c.args.layout c.args.copy.now i c.args.layout.pages (omega arith) c.digest-digest.result _ digest_is kept_is in
    c.loop-i.invariant ∙ bad_later c.args.layout c.args.copy.now i c.args.layout.pages (omega arith) (agrees c.ne.result _ _ c.ne.ensures c.if-ne.false test)

pub returns : goal.returns
returns c = sym (c.loop-i.invariant ∙ bad_none c.args.layout c.args.copy.now c.loop-i.i c.args.layout.pages (omega arith))
