-- What each moment of a writing leaves that writes the changed pages alone.
use Rattle.std.proofs.Common.{◌≡◌, inl, inr, ℕ, ◌+◌, ◌*◌, ◌-◌, ◌<◌, ◌≤◌, Bool, true, false, not, List, [], ◌∷◌, ◌++◌, length, get_or, take, drop, refl, sym, ◌∙◌, ap, subst, arith, set, append_assoc, length-append, length-drop, take-append-drop, Option, Some, None, Ok}
use Rattle.std.proofs.lemmas.Bool.{cases_eq, cases_lt}
use Rattle.std.proofs.lemmas.List.{get_or-set_same, get_or-set_other, length-take-le, take_at, drop_at, drop-drop, drop-take, take-take}
use Rattle.std.specs.Str.{bytes_eq}
use Rattle.gd_disk.specs.Disk.{Answers, DiskState, IfTold, Loses, Torn, Unchanged, seen_with_bytes, with_bytes}
use Rattle.gd_disk.specs.Runs.{LeavesOnly}
use Rattle.gd_disk.proofs.Runs.{and_then, at_end, goes_on, started, weaker}
use Rattle.gd_disk.proofs.Written.{torn_refl, torn_trans, torn_wider, torn-written}
use Rattle.gd_disk.specs.declared.lengths.TheConstants.{PAGE_LEN}
use Rattle.gd_store.specs.Changes.{differ, ArePagesAt, IsOverPage, KeepsPages}
use Rattle.gd_store.specs.Copy.{page, part}
use Rattle.gd_store.specs.Writing.{seen_shut, From, IsShutting}
use Rattle.gd_store.proofs.Images.{part_before, part_behind}

-- ================ runs

-- a step and another one after it, where the two make one
pub then_from : (old mid new : DiskState) (R S T : List ℕ → List ℕ → Type 0)
    → ((d m : List ℕ) → R d m → T d m) → ((d m c : List ℕ) → R d m → S m c → T d c)
    → LeavesOnly old mid (From old R) → LeavesOnly mid new (From mid S) → LeavesOnly old new (From old T)
then_from old mid new R S T one both first second = and_then old mid new _ _ _ first second (λ c from. (from.0, from.1, one from.0 c from.2)) (λ c from.
    let back = at_end old mid (From old R) first from.0 from.1 in
    (back.0, back.1, both back.0 from.0 c back.2 from.2))

-- a step of which less is said
pub less_from : (old new : DiskState) (R T : List ℕ → List ℕ → Type 0) → ((d c : List ℕ) → R d c → T d c) → LeavesOnly old new (From old R) → LeavesOnly old new (From old T)
less_from old new R T one run = weaker old new _ _ run (λ c from. (from.0, from.1, one from.0 c from.2))

-- ================ pages

pub keeps_refl : (at n first : ℕ) (changed : List Bool) (c : List ℕ) → KeepsPages at n first changed c c
keeps_refl at n first changed c = record { elsewhere = torn_refl at n c; stands = λ i lt same. refl }

pub keeps_trans : (at n first : ℕ) (changed : List Bool) (a b c : List ℕ) → KeepsPages at n first changed a b → KeepsPages at n first changed b c → KeepsPages at n first changed a c
keeps_trans at n first changed a b c one two = record {
  elsewhere = torn_trans at n a b c one.elsewhere two.elsewhere;
  stands = λ i lt same. two.stands i lt same ∙ one.stands i lt same;
}

pub keeps_wider : (at n from m first : ℕ) (changed : List Bool) (a b : List ℕ) → from ≤ at → at + n ≤ from + m → KeepsPages at n first changed a b → KeepsPages from m first changed a b
keeps_wider at n from m first changed a b low high keeps = record {
  elsewhere = torn_wider at n from m a b low high keeps.elsewhere;
  stands = keeps.stands;
}

-- what is torn before the first page
pub torn_before : (at n from m first : ℕ) (changed : List Bool) (a b : List ℕ) → from ≤ at → at + n ≤ first → at + n ≤ from + m → Torn at n a b → KeepsPages from m first changed a b
torn_before at n from m first changed a b low before high torn = record {
  elsewhere = torn_wider at n from m a b low high torn;
  stands = λ i lt same. part_behind at n (first + PAGE_LEN * i) PAGE_LEN a b (omega (arith, before)) torn;
}

-- a page among them
pub over_page : (j n at len total : ℕ) (changed : List Bool) (is_changed : Bool) (a b : List ℕ) → len ≡ PAGE_LEN → n ≡ at + PAGE_LEN * j → total ≡ PAGE_LEN * length changed → j < length changed → is_changed ≡ get_or changed j false
    → IsOverPage is_changed n len a b → KeepsPages at total at changed a b
over_page j n at len total changed is_changed a b len_is n_is total_is lt is over = record {
  elsewhere = torn_wider n len at total a b (omega (arith, n_is)) (omega (arith, n_is, len_is, total_is, lt)) over.elsewhere;
  stands = λ i lt_i same. elim (cases_lt i j) [
    | inl below ↦ part_before n len (at + PAGE_LEN * i) PAGE_LEN a b (omega (arith, below, n_is)) over.elsewhere
    | inr from ↦ elim (cases_eq i j) [
      | inl here ↦ ap (λ (x : List ℕ). part (at + PAGE_LEN * i) PAGE_LEN x) (over.stands (is ∙ ap (λ (k : ℕ). get_or changed k false) (sym here) ∙ same))
      | inr other ↦ part_behind n len (at + PAGE_LEN * i) PAGE_LEN a b (omega (arith, from, other, n_is, len_is)) over.elsewhere
    ]
  ];
}

-- ================ what a read gives

pub told_seen : (seen : Option (List ℕ)) (P Q : List ℕ → Type 0) → ((d : List ℕ) → seen ≡ Some d → P d → Q d) → IfTold seen P → IfTold seen Q
told_seen None P Q from fact = fact
told_seen (Some d) P Q from fact = from d refl fact

-- bytes that stand there already
pub same_written : (at : ℕ) (bytes c : List ℕ) → part at (length bytes) c ≡ bytes → with_bytes at bytes c ≡ c
same_written at bytes c same =
    append_assoc (take at c) bytes (drop (at + length bytes) c)
    ∙ ap (λ (x : List ℕ). take at c ++ x) (ap (λ (x : List ℕ). x ++ drop (at + length bytes) c) (sym same) ∙ ap (λ (x : List ℕ). take (length bytes) (drop at c) ++ x) (sym (drop-drop (length bytes) at c)) ∙ take-append-drop (length bytes) (drop at c))
    ∙ take-append-drop at c

pub seen_same : (at : ℕ) (bytes : List ℕ) (seen : Option (List ℕ)) → IfTold seen (λ c. part at (length bytes) c ≡ bytes) → seen ≡ seen_with_bytes at bytes seen
seen_same at bytes None told = refl
seen_same at bytes (Some c) told = ap Some (sym (same_written at bytes c told))

-- bytes behind others
pub written_next : (at k : ℕ) (xs ys c : List ℕ) → k ≡ at + length xs → at + length xs + length ys ≤ length c → with_bytes k ys (with_bytes at xs c) ≡ with_bytes at (xs ++ ys) c
written_next at k xs ys c k_is long =
    ap (λ (x : List ℕ). x ++ ys ++ drop (k + length ys) w) (take_at (take at c ++ xs) (drop (at + length xs) c) k front_long)
    ∙ ap (λ (x : List ℕ). take at c ++ xs ++ ys ++ x) rest
    ∙ ap (λ (x : List ℕ). x ++ drop (at + length (xs ++ ys)) c) (append_assoc (take at c) xs ys)
  where
    w : List ℕ
    w = with_bytes at xs c

    front_long : length (take at c ++ xs) ≡ k
    front_long = omega (arith, length-append (take at c) xs, length-take-le at c (omega (arith, long)), k_is)

    sums : at + length xs + length ys ≡ at + length (xs ++ ys)
    sums = omega (arith, length-append xs ys)

    rest : drop (k + length ys) w ≡ drop (at + length (xs ++ ys)) c
    rest =
        sym (drop-drop (length ys) k w)
        ∙ ap (λ (x : List ℕ). drop (length ys) x) (drop_at (take at c ++ xs) (drop (at + length xs) c) k front_long)
        ∙ drop-drop (length ys) (at + length xs) c
        ∙ ap (λ (j : ℕ). drop j c) sums

pub seen_next : (at k : ℕ) (xs ys : List ℕ) (seen : Option (List ℕ)) → k ≡ at + length xs → ((c : List ℕ) → seen ≡ Some c → at + length xs + length ys ≤ length c)
    → seen_with_bytes k ys (seen_with_bytes at xs seen) ≡ seen_with_bytes at (xs ++ ys) seen
seen_next at k xs ys None k_is long = refl
seen_next at k xs ys (Some c) k_is long = ap Some (written_next at k xs ys c k_is (long c refl))

-- what stands of the row of pages behind bytes that were written before them
pub still_at : (at : ℕ) (bytes : List ℕ) (first : ℕ) (changed : List Bool) (payload c : List ℕ) → at + length bytes ≤ length c → at + length bytes ≤ first → ArePagesAt first changed payload c → ArePagesAt first changed payload (with_bytes at bytes c)
still_at at bytes first changed payload c long before stand = λ i lt same.
    part_behind at (length bytes) (first + PAGE_LEN * i) PAGE_LEN c (with_bytes at bytes c) (omega (arith, before)) (torn-written at bytes c long) ∙ stand i lt same

pub seen_still : (at : ℕ) (bytes : List ℕ) (seen now : Option (List ℕ)) (first : ℕ) (changed : List Bool) (payload : List ℕ) → now ≡ seen_with_bytes at bytes seen → ((c : List ℕ) → seen ≡ Some c → at + length bytes ≤ length c) → at + length bytes ≤ first
    → IfTold seen (ArePagesAt first changed payload) → IfTold now (ArePagesAt first changed payload)
seen_still at bytes seen now first changed payload is long before told = subst (λ (s : Option (List ℕ)). IfTold s (ArePagesAt first changed payload)) (sym is) (written seen long told)
  where
    written : (seen : Option (List ℕ)) → ((c : List ℕ) → seen ≡ Some c → at + length bytes ≤ length c) → IfTold seen (ArePagesAt first changed payload) → IfTold (seen_with_bytes at bytes seen) (ArePagesAt first changed payload)
    written None long told = tt
    written (Some c) long told = still_at at bytes first changed payload c (long c refl) before told

-- one page more of a payload
pub pages_more : (i : ℕ) (payload : List ℕ) → take (PAGE_LEN * i) payload ++ page i payload ≡ take (PAGE_LEN * (i + 1)) payload
pages_more i payload =
    let sums : PAGE_LEN * i + PAGE_LEN ≡ PAGE_LEN * (i + 1) = omega arith in
    ap (λ (x : List ℕ). x ++ page i payload) (sym (take-take (PAGE_LEN * i) (PAGE_LEN * i + PAGE_LEN) payload (omega arith)))
    ∙ ap (λ (x : List ℕ). take (PAGE_LEN * i) (take (PAGE_LEN * i + PAGE_LEN) payload) ++ x) (sym (drop-take (PAGE_LEN * i) PAGE_LEN payload))
    ∙ take-append-drop (PAGE_LEN * i) (take (PAGE_LEN * i + PAGE_LEN) payload)
    ∙ ap (λ (k : ℕ). take k payload) sums

pub long_pages : (i n : ℕ) (payload : List ℕ) → length payload ≡ PAGE_LEN * n → i ≤ n → length (take (PAGE_LEN * i) payload) ≡ PAGE_LEN * i
long_pages i n payload long le = length-take-le (PAGE_LEN * i) payload (omega (arith, long, le))

-- the page that comes next, while those before it are written
pub page_there : (at i : ℕ) (changed : List Bool) (payload slice : List ℕ) (seen now : Option (List ℕ)) → now ≡ seen_with_bytes at (take (PAGE_LEN * i) payload) seen → ((c : List ℕ) → seen ≡ Some c → at + length payload ≤ length c)
    → length payload ≡ PAGE_LEN * length changed → i < length changed → slice ≡ page i payload → length slice ≡ PAGE_LEN → IfTold seen (ArePagesAt at changed payload) → get_or changed i false ≡ false
    → IfTold now (λ image. part (at + PAGE_LEN * i) (length slice) image ≡ slice)
page_there at i changed payload slice seen now is long total lt slice_is len told same =
    subst (λ (s : Option (List ℕ)). IfTold s (λ image. part (at + PAGE_LEN * i) (length slice) image ≡ slice)) (sym is) (there seen long told)
  where
    front_long : length (take (PAGE_LEN * i) payload) ≡ PAGE_LEN * i
    front_long = long_pages i (length changed) payload total (omega (arith, lt))

    there : (seen : Option (List ℕ)) → ((c : List ℕ) → seen ≡ Some c → at + length payload ≤ length c) → IfTold seen (ArePagesAt at changed payload)
        → IfTold (seen_with_bytes at (take (PAGE_LEN * i) payload) seen) (λ image. part (at + PAGE_LEN * i) (length slice) image ≡ slice)
    there None long told = tt
    there (Some c) long told =
        let enough : at + length payload ≤ length c = long c refl in
        let torn = torn-written at (take (PAGE_LEN * i) payload) c (omega (arith, front_long, enough, total, lt)) in
        part_behind at (length (take (PAGE_LEN * i) payload)) (at + PAGE_LEN * i) (length slice) c (with_bytes at (take (PAGE_LEN * i) payload) c) (omega (arith, front_long)) torn
        ∙ ap (λ (k : ℕ). part (at + PAGE_LEN * i) k c) len ∙ told i lt same ∙ sym slice_is

pub seen_none : (at : ℕ) (seen : Option (List ℕ)) → seen ≡ seen_with_bytes at [] seen
seen_none at None = refl
seen_none at (Some c) = ap Some (sym (same_written at [] c refl))

-- ================ what calls answer

pub no_answer : (disk : DiskState) → disk.is_on ≡ true → Answers {T = Unit {0}} {E = Unit {0}} (Ok tt) disk disk
no_answer disk on = record { size = refl; found = refl; was_on = on; stays_on = on; no_stop = refl; no_fault = refl; goes_off = tt; stop = tt }

pub answers_then : {S F : Type 0} (y : S) (old mid new : DiskState) → Answers {T = Unit {0}} {E = Unit {0}} (Ok tt) old mid → Answers {T = S} {E = F} (Ok y) mid new → Answers {T = Unit {0}} {E = Unit {0}} (Ok tt) old new
answers_then y old mid new one two = record {
  size = two.size ∙ one.size;
  found = two.found ∙ one.found;
  was_on = one.was_on;
  stays_on = two.stays_on;
  no_stop = two.no_stop ∙ one.no_stop;
  no_fault = two.no_fault ∙ one.no_fault;
  goes_off = tt;
  stop = tt;
}

-- one bit more is set
pub set_more : (xs : List Bool) (i : ℕ) (v : Bool) (F : ℕ → Bool) → ((k : ℕ) → k < i → get_or xs k false ≡ F k) → v ≡ F i → i < length xs → (k : ℕ) → k < i + 1 → get_or (set xs i v) k false ≡ F k
set_more xs i v F below here lt k lt_k = elim (cases_eq k i) [
  | inl same ↦ ap (λ (j : ℕ). get_or (set xs i v) j false) same ∙ get_or-set_same xs i v false lt ∙ here ∙ ap F (sym same)
  | inr other ↦ get_or-set_other xs i k v false other ∙ below k (omega (arith, lt_k, other))
]

-- a slice that is a page
pub slice_page : (i : ℕ) (payload : List ℕ) → take (PAGE_LEN * i + PAGE_LEN - PAGE_LEN * i) (drop (PAGE_LEN * i) payload) ≡ page i payload
slice_page i payload = let sums : PAGE_LEN * i + PAGE_LEN - PAGE_LEN * i ≡ PAGE_LEN = omega arith in ap (λ (k : ℕ). take k (drop (PAGE_LEN * i) payload)) sums

pub length-page : (i n : ℕ) (payload : List ℕ) → length payload ≡ PAGE_LEN * n → i < n → length (page i payload) ≡ PAGE_LEN
length-page i n payload long lt = length-take-le PAGE_LEN (drop (PAGE_LEN * i) payload) (omega (arith, length-drop (PAGE_LEN * i) payload, long, lt))

-- one page more was written over
pub over_more : (at i : ℕ) (changed : List Bool) (payload slice : List ℕ) (old mid new : DiskState) → slice ≡ page i payload → length payload ≡ PAGE_LEN * length changed → i < length changed
    → LeavesOnly old mid (From old (KeepsPages at (length payload) at changed)) → LeavesOnly mid new (From mid (IsOverPage (get_or changed i false) (at + PAGE_LEN * i) (length slice)))
    → LeavesOnly old new (From old (KeepsPages at (length payload) at changed))
over_more at i changed payload slice old mid new is total lt first second =
    let len : length slice ≡ PAGE_LEN = ap length is ∙ length-page i (length changed) payload total lt in
    then_from old mid new (KeepsPages at (length payload) at changed) (IsOverPage (get_or changed i false) (at + PAGE_LEN * i) (length slice)) (KeepsPages at (length payload) at changed) (λ d m keeps. keeps)
    (λ d m c keeps over. keeps_trans at (length payload) at changed d m c keeps (over_page i (at + PAGE_LEN * i) at (length slice) (length payload) changed (get_or changed i false) m c len refl total lt refl over)) first second

-- the test of the code
pub slices_differ : (i : ℕ) (p q : List ℕ) → not (bytes_eq (take (PAGE_LEN * i + PAGE_LEN - PAGE_LEN * i) (drop (PAGE_LEN * i) p)) (take (PAGE_LEN * i + PAGE_LEN - PAGE_LEN * i) (drop (PAGE_LEN * i) q))) ≡ differ i p q
slices_differ i p q =
    ap (λ (x : List ℕ). not (bytes_eq x (take (PAGE_LEN * i + PAGE_LEN - PAGE_LEN * i) (drop (PAGE_LEN * i) q)))) (slice_page i p)
    ∙ ap (λ (x : List ℕ). not (bytes_eq (page i p) x)) (slice_page i q)

-- the writing of a front before the first page, from an image on
pub front_moment : (at n total first : ℕ) (changed : List Bool) (old new : DiskState) → at + n ≤ first → at + n ≤ at + total → Loses (Torn at n) old new → LeavesOnly old new (From old (KeepsPages at total first changed))
front_moment at n total first changed old new before high call =
    goes_on old old new (From old (KeepsPages at total first changed)) (Torn at n) (started old (From old (KeepsPages at total first changed)) (λ c may. (c, may, keeps_refl at total first changed c))) call
    (λ c now. let was = call.now c now in (was.0, was.1, torn_before at n at total first changed was.0 c (omega arith) before high was.2))

-- and of the pages behind it
pub body_moment : (at n m total first : ℕ) (changed : List Bool) (old mid new : DiskState) → first ≡ at + n → total ≡ n + m → LeavesOnly old mid (From old (KeepsPages at total first changed)) → LeavesOnly mid new (From mid (KeepsPages first m first changed))
    → LeavesOnly old new (From old (KeepsPages at total first changed))
body_moment at n m total first changed old mid new is sums front pages =
    then_from old mid new (KeepsPages at total first changed) (KeepsPages first m first changed) (KeepsPages at total first changed) (λ d m keeps. keeps)
    (λ d w c one two. keeps_trans at total first changed d w c one (keeps_wider first m at total first changed w c (omega (arith, is)) (omega (arith, is, sums)) two)) front pages

pub then_sync : (R : List ℕ → List ℕ → Type 0) (old mid new : DiskState) → LeavesOnly old mid (From old R) → Loses Unchanged mid new → LeavesOnly old new (From old R)
then_sync R old mid new run call = goes_on old mid new (From old R) Unchanged run call (λ c now.
    let was = call.now c now in
    let back = at_end old mid (From old R) run was.0 was.1 in
    (back.0, back.1, subst (λ (x : List ℕ). R back.0 x) (sym was.2) back.2))

-- ================ a copy

-- what stands of the pages after an open gate is shut
pub seen_shut_still : (at : ℕ) (seen now : Option (List ℕ)) (first : ℕ) (changed : List Bool) (payload : List ℕ) → now ≡ seen_shut at 0xA5 seen → ((c : List ℕ) → seen ≡ Some c → at + 1 ≤ length c) → at + 1 ≤ first
    → IfTold seen (ArePagesAt first changed payload) → IfTold now (ArePagesAt first changed payload)
seen_shut_still at seen now first changed payload is long before told = seen_still at (0 ∷ []) seen now first changed payload is long before told

-- less is said of the writing of a body
pub body_torn : (at n first : ℕ) (changed : List Bool) (old new : DiskState) → LeavesOnly old new (From old (KeepsPages at n first changed)) → LeavesOnly old new (From old (Torn at n))
body_torn at n first changed old new run = less_from old new (KeepsPages at n first changed) (Torn at n) (λ d c keeps. keeps.elsewhere) run

module _ (at : ℕ) (front payload : List ℕ) (changed : List Bool) where
  -- the length of a copy, and the place of its first page
  abbrev total : ℕ
  total = length (0xA5 ∷ (front ++ payload))

  abbrev first : ℕ
  first = at + 1 + length front

  shut_keeps : (d c : List ℕ) → IsShutting at d c → KeepsPages at total first changed d c
  shut_keeps d c s = torn_before at 1 at total first changed d c (omega arith) (omega arith) (omega arith) s.elsewhere

  body_keeps : (d c : List ℕ) → KeepsPages (at + 1) (length (front ++ payload)) first changed d c → KeepsPages at total first changed d c
  body_keeps d c keeps = keeps_wider (at + 1) (length (front ++ payload)) at total first changed d c (omega arith) (omega arith) keeps

  gate_keeps : (d c : List ℕ) → Torn at 1 d c → KeepsPages at total first changed d c
  gate_keeps d c torn = torn_before at 1 at total first changed d c (omega arith) (omega arith) (omega arith) torn

  pub pages_shut : (old s1 : DiskState) → LeavesOnly old s1 (From old (IsShutting at)) → LeavesOnly old s1 (From old (KeepsPages at total first changed))
  pages_shut old s1 run = less_from old s1 (IsShutting at) (KeepsPages at total first changed) shut_keeps run

  pub pages_body : (old s1 s2 : DiskState) → LeavesOnly old s1 (From old (IsShutting at)) → LeavesOnly s1 s2 (From s1 (KeepsPages (at + 1) (length (front ++ payload)) first changed)) → LeavesOnly old s2 (From old (KeepsPages at total first changed))
  pages_body old s1 s2 shut body = then_from old s1 s2 (KeepsPages at total first changed) (KeepsPages (at + 1) (length (front ++ payload)) first changed) (KeepsPages at total first changed) (λ d m keeps. keeps)
      (λ d m c one two. keeps_trans at total first changed d m c one (body_keeps m c two)) (pages_shut old s1 shut) body

  pub pages_gate : (old s1 s2 s3 : DiskState) → LeavesOnly old s1 (From old (IsShutting at)) → LeavesOnly s1 s2 (From s1 (KeepsPages (at + 1) (length (front ++ payload)) first changed)) → LeavesOnly s2 s3 (From s2 (Torn at 1)) → LeavesOnly old s3 (From old (KeepsPages at total first changed))
  pages_gate old s1 s2 s3 shut body gate = then_from old s2 s3 (KeepsPages at total first changed) (Torn at 1) (KeepsPages at total first changed) (λ d m keeps. keeps)
      (λ d m c one two. keeps_trans at total first changed d m c one (gate_keeps m c two)) (pages_body old s1 s2 shut body) gate
