use Rattle.std.proofs.Common.{rules, ◌≡◌, ◌+◌, ◌*◌, ◌++◌, ◌∷◌, ◌∙◌, ℕ, List, length, length-append, arith, ap, sym}
use Rattle.std.proofs.lemmas.Result.{on_ok_weaker}
use Rattle.gd_disk.proofs.WholeRuns.{run_on}
use Rattle.gd_disk.specs.declared.lengths.TheConstants.{DIGEST_LEN}
use Rattle.gd_store.specs.Copy.{body_of, copy_a, IsCopy}
use Rattle.gd_store.proofs.Commit.{both, gate_a, gate_b, holds_a, moments_a, moments_b, opened, orders_a, orders_b}
use Rattle.gd_store.proofs.Fronts.{body_is, length-front}
use Rattle.gd_store.proofs.PagesKept.{kept_digest, pages_in_a, pages_in_b, stand_a, stand_b}
use Rattle.gd_store.proofs.Sealed.{length-digests}
use Rattle.gd_store.proofs.copy.changing.write_both.Goals as goal

pub seal_front-requires-clause-kept : goal.seal_front-requires-clause-kept
seal_front-requires-clause-kept g c =
    let few : length c.find_changes.new.changed ≡ c.args.layout.pages = search rules in
    ap length c.requires.digests ∙ length-digests c.args.layout.pages c.args.kept.now ∙ ap (λ (k : ℕ). DIGEST_LEN * k) (sym few)

pub seal_front-requires-clause-same : goal.seal_front-requires-clause-same
seal_front-requires-clause-same g c =
    let few : length c.find_changes.new.changed ≡ c.args.layout.pages = search rules in
    λ i lt same.
    kept_digest c.args.layout.pages i c.args.kept.now c.args.payload.now c.args.kept_digests.now c.find_changes.new.changed c.requires.digests (omega (arith, lt, few)) (c.find_changes.ensures.each i lt) same

pub write_changes-requires-clause-gate : goal.write_changes-requires-clause-gate
write_changes-requires-clause-gate g c =
    gate_a c.args.layout c.args.sequence c.args.kept.now (g.D.Disk.state c.args.disk.now).seen c.requires.holds

pub write_changes-requires-clause-stand : goal.write_changes-requires-clause-stand
write_changes-requires-clause-stand g c =
    let few : length c.find_changes.new.changed ≡ c.args.layout.pages = search rules in
    let l = c.args.layout in
    let n = c.args.sequence + 1 in
    let p = c.args.kept.now in
    let q = c.args.payload.now in
    let long : length c.seal_front.new.front ≡ 16 + DIGEST_LEN * l.pages + DIGEST_LEN = ap length c.seal_front.ensures ∙ length-front l n q in
    pages_in_a l c.args.sequence p q c.find_changes.new.changed few c.find_changes.ensures.each (l.a + 1 + length c.seal_front.new.front) (g.D.Disk.state c.args.disk.now).seen (omega (arith, long)) c.requires.holds

pub returns-in_err-write_changes-clause-any_moment : goal.returns-in_err-write_changes-clause-any_moment
returns-in_err-write_changes-clause-any_moment g c =
    let l = c.args.layout in
    let n = c.args.sequence + 1 in
    let p = c.args.kept.now in
    let q = c.args.payload.now in
    let body = c.seal_front.new.front ++ q in
    let old = g.D.Disk.state c.args.disk.now in
    let s1 = g.D.Disk.state c.write_changes.new.disk in
    let is : body ≡ body_of l n q = ap (λ (x : List ℕ). x ++ q) c.seal_front.ensures ∙ sym (body_is l n q) in
    moments_a l c.args.sequence n p q (0xA5 ∷ body) (omega arith) (omega (arith, c.requires.sequence)) c.requires.kept c.requires.length (opened l n q body is) old s1 c.requires.within c.requires.synced c.requires.holds c.write_changes.ensures.any_moment

pub returns-in_err-write_changes-clause-order : goal.returns-in_err-write_changes-clause-order
returns-in_err-write_changes-clause-order g c =
    let l = c.args.layout in
    let n = c.args.sequence + 1 in
    let p = c.args.kept.now in
    let q = c.args.payload.now in
    let body = c.seal_front.new.front ++ q in
    let old = g.D.Disk.state c.args.disk.now in
    let s1 = g.D.Disk.state c.write_changes.new.disk in
    let is : body ≡ body_of l n q = ap (λ (x : List ℕ). x ++ q) c.seal_front.ensures ∙ sym (body_is l n q) in
    orders_a l c.args.sequence n p q (0xA5 ∷ body) (omega arith) (omega (arith, c.requires.sequence)) c.requires.kept c.requires.length (opened l n q body is) old s1 c.requires.within c.requires.synced c.requires.holds c.write_changes.ensures.any_moment

pub returns-in_err-write_changes-clause-pages : goal.returns-in_err-write_changes-clause-pages
returns-in_err-write_changes-clause-pages g c =
    let few : length c.find_changes.new.changed ≡ c.args.layout.pages = search rules in
    let l = c.args.layout in
    let n = c.args.sequence + 1 in
    let p = c.args.kept.now in
    let q = c.args.payload.now in
    let body = c.seal_front.new.front ++ q in
    let old = g.D.Disk.state c.args.disk.now in
    let s1 = g.D.Disk.state c.write_changes.new.disk in
    let long : length c.seal_front.new.front ≡ 16 + DIGEST_LEN * l.pages + DIGEST_LEN = ap length c.seal_front.ensures ∙ length-front l n q in
    stand_a l c.args.sequence p q c.find_changes.new.changed few c.find_changes.ensures.each
    (length (0xA5 ∷ body)) (l.a + 1 + length c.seal_front.new.front) old s1 (omega (arith, long, length-append c.seal_front.new.front q, c.requires.length)) (omega (arith, long)) c.requires.within.apart c.requires.synced c.requires.holds c.write_changes.ensures.pages

pub write_changes-requires-2-clause-gate : goal.write_changes-requires-2-clause-gate
write_changes-requires-2-clause-gate g c =
    let l = c.args.layout in
    let n = c.args.sequence + 1 in
    let p = c.args.kept.now in
    let q = c.args.payload.now in
    let body = c.seal_front.new.front ++ q in
    let old = g.D.Disk.state c.args.disk.now in
    let s1 = g.D.Disk.state c.write_changes.new.disk in
    let is : body ≡ body_of l n q = ap (λ (x : List ℕ). x ++ q) c.seal_front.ensures ∙ sym (body_is l n q) in
    gate_b l c.args.sequence n p q (0xA5 ∷ body) (omega arith) (omega (arith, c.requires.sequence)) c.requires.kept c.requires.length (opened l n q body is) old s1 c.requires.within c.requires.synced c.requires.holds
    s1 c.write_changes.ensures.any_moment c.in_ok-write_changes.ensures.seen c.in_ok-write_changes.ensures.synced c.write_changes.ensures.answer.size

pub write_changes-requires-2-clause-stand : goal.write_changes-requires-2-clause-stand
write_changes-requires-2-clause-stand g c =
    let few : length c.find_changes.new.changed ≡ c.args.layout.pages = search rules in
    let l = c.args.layout in
    let n = c.args.sequence + 1 in
    let p = c.args.kept.now in
    let q = c.args.payload.now in
    let body = c.seal_front.new.front ++ q in
    let old = g.D.Disk.state c.args.disk.now in
    let s1 = g.D.Disk.state c.write_changes.new.disk in
    let is : body ≡ body_of l n q = ap (λ (x : List ℕ). x ++ q) c.seal_front.ensures ∙ sym (body_is l n q) in
    let long : length c.seal_front.new.front ≡ 16 + DIGEST_LEN * l.pages + DIGEST_LEN = ap length c.seal_front.ensures ∙ length-front l n q in
    pages_in_b l c.args.sequence p q c.find_changes.new.changed few c.find_changes.ensures.each (l.b + 1 + length c.seal_front.new.front) s1.seen (λ image. IsCopy l n q (copy_a l image)) (omega (arith, long))
    (holds_a l c.args.sequence n p q (0xA5 ∷ body) (omega arith) (omega (arith, c.requires.sequence)) c.requires.kept c.requires.length (opened l n q body is) old s1 c.requires.within c.requires.synced c.requires.holds c.in_ok-write_changes.ensures.seen)

pub returns-clause-holds : goal.returns-clause-holds
returns-clause-holds g c =
    let l = c.args.layout in
    let n = c.args.sequence + 1 in
    let p = c.args.kept.now in
    let q = c.args.payload.now in
    let body = c.seal_front.new.front ++ q in
    let old = g.D.Disk.state c.args.disk.now in
    let s1 = g.D.Disk.state c.write_changes.new.disk in
    let s2 = g.D.Disk.state c.write_changes-2.new.disk in
    let is : body ≡ body_of l n q = ap (λ (x : List ℕ). x ++ q) c.seal_front.ensures ∙ sym (body_is l n q) in
    on_ok_weaker c.write_changes-2.result
    (λ seen. both l c.args.sequence n p q (0xA5 ∷ body) (omega arith) (omega (arith, c.requires.sequence)) c.requires.kept c.requires.length (opened l n q body is) old s1 c.requires.within c.requires.synced c.requires.holds
    s2 c.write_changes.ensures.any_moment c.in_ok-write_changes.ensures.seen c.in_ok-write_changes.ensures.synced c.write_changes.ensures.answer.size seen)
    c.write_changes-2.ensures.seen

pub returns-clause-any_moment : goal.returns-clause-any_moment
returns-clause-any_moment g c =
    let l = c.args.layout in
    let n = c.args.sequence + 1 in
    let p = c.args.kept.now in
    let q = c.args.payload.now in
    let body = c.seal_front.new.front ++ q in
    let old = g.D.Disk.state c.args.disk.now in
    let s1 = g.D.Disk.state c.write_changes.new.disk in
    let s2 = g.D.Disk.state c.write_changes-2.new.disk in
    let is : body ≡ body_of l n q = ap (λ (x : List ℕ). x ++ q) c.seal_front.ensures ∙ sym (body_is l n q) in
    moments_b l c.args.sequence n p q (0xA5 ∷ body) (omega arith) (omega (arith, c.requires.sequence)) c.requires.kept c.requires.length (opened l n q body is) old s1 c.requires.within c.requires.synced c.requires.holds
    s2 c.write_changes.ensures.any_moment c.in_ok-write_changes.ensures.seen c.in_ok-write_changes.ensures.synced c.write_changes.ensures.answer.size c.write_changes-2.ensures.any_moment

pub returns-clause-order : goal.returns-clause-order
returns-clause-order g c =
    let l = c.args.layout in
    let n = c.args.sequence + 1 in
    let p = c.args.kept.now in
    let q = c.args.payload.now in
    let body = c.seal_front.new.front ++ q in
    let old = g.D.Disk.state c.args.disk.now in
    let s1 = g.D.Disk.state c.write_changes.new.disk in
    let s2 = g.D.Disk.state c.write_changes-2.new.disk in
    let is : body ≡ body_of l n q = ap (λ (x : List ℕ). x ++ q) c.seal_front.ensures ∙ sym (body_is l n q) in
    orders_b l c.args.sequence n p q (0xA5 ∷ body) (omega arith) (omega (arith, c.requires.sequence)) c.requires.kept c.requires.length (opened l n q body is) old s1 c.requires.within c.requires.synced c.requires.holds
    s2 c.write_changes.ensures.any_moment c.in_ok-write_changes.ensures.seen c.in_ok-write_changes.ensures.synced c.write_changes.ensures.answer.size c.write_changes-2.ensures.any_moment

pub returns-clause-pages : goal.returns-clause-pages
returns-clause-pages g c =
    let few : length c.find_changes.new.changed ≡ c.args.layout.pages = search rules in
    let l = c.args.layout in
    let n = c.args.sequence + 1 in
    let p = c.args.kept.now in
    let q = c.args.payload.now in
    let body = c.seal_front.new.front ++ q in
    let old = g.D.Disk.state c.args.disk.now in
    let s1 = g.D.Disk.state c.write_changes.new.disk in
    let s2 = g.D.Disk.state c.write_changes-2.new.disk in
    let long : length c.seal_front.new.front ≡ 16 + DIGEST_LEN * l.pages + DIGEST_LEN = ap length c.seal_front.ensures ∙ length-front l n q in
    stand_b l c.args.sequence p q c.find_changes.new.changed few c.find_changes.ensures.each
    (length (0xA5 ∷ body)) (l.a + 1 + length c.seal_front.new.front) old s1 (omega (arith, long, length-append c.seal_front.new.front q, c.requires.length)) (omega (arith, long)) c.requires.within.apart c.requires.synced c.requires.holds s2 (l.b + 1 + length c.seal_front.new.front) (omega (arith, long)) c.write_changes.ensures.pages c.write_changes-2.ensures.pages

pub returns-clause-run : goal.returns-clause-run
returns-clause-run g c =
    run_on 3 3 c.write_changes-2.result (g.D.Disk.state c.args.disk.now) (g.D.Disk.state c.write_changes.new.disk) (g.D.Disk.state c.write_changes-2.new.disk)
    c.in_ok-write_changes.ensures.answer.was_on c.in_ok-write_changes.ensures.answer.stays_on c.in_ok-write_changes.ensures.run.whole c.write_changes-2.ensures.run
