-- The fields of a head are read as they were written.
use Rattle.std.proofs.Common.{◌≡◌, ◌∙◌, refl, ℕ, ◌+◌, List, [], ◌∷◌, ◌++◌, length, flat_map, take, slice_index, arith, Option}
use Rattle.std.proofs.lemmas.List.{take_at}
use Rattle.std.proofs.lemmas.Nat.{from_be_bytes-to_be_bytes_8}
use Rattle.gd_base.specs.declared.layout.TheConstants.{SETUP_DIGEST_LEN, COUNT_AT, BALANCE_AT, TOTALS_AT, DOORS_AT, TILTS_AT, HANDPAY_AT, ORDER_AT, ORDERS_AT, ORDER_AMOUNT_AT, KEPT_AT}
use Rattle.gd_base.specs.declared.refusal.Reply.{Reply}
use Rattle.gd_base.specs.Payloads.Bytes.{eight, kept_bytes}
use Rattle.gd_base.specs.Payloads.Reading.{number_at, sixteen_at, handpay_read, kept_reads, reply_of}
use Rattle.gd_base.specs.Payloads.ViewCode.{reply_back}
use Rattle.gd_base.proofs.PayloadLemmas.Behind.{number_behind, byte_behind}
use Rattle.gd_base.proofs.PayloadLemmas.Fields.{Each}
use Rattle.gd_base.proofs.PayloadLemmas.FieldsBack.{handpay_by}
use Rattle.gd_base.proofs.PayloadLemmas.RecordsBack.{Short, sixteen}

abbrev Kept : Type 0
Kept = ℕ × Option Reply

abbrev nine : (a b c d e f g h i : Kept) → List Kept
nine a b c d e f g h i = a ∷ b ∷ c ∷ d ∷ e ∷ f ∷ g ∷ h ∷ i ∷ []

-- the numbers of a head but for the lists
pub record Numbers : Type 0 where
  pub count : ℕ
  pub balance : ℕ
  pub doors : ℕ
  pub tilts : ℕ
  pub handpay_kind : ℕ
  pub handpay_amount : ℕ
  pub order_kind : ℕ
  pub orders : ℕ
  pub order_amount : ℕ

pub record AreShort (n : Numbers) : Type 0 where
  pub count : Short n.count
  pub balance : Short n.balance
  pub handpay_amount : Short n.handpay_amount
  pub orders : Short n.orders
  pub order_amount : Short n.order_amount

-- the bytes of a head behind its digest
abbrev pub behind_digest : Numbers → List ℕ → List Kept → List ℕ → List ℕ
behind_digest n totals kept rest =
    eight n.count ++ (eight n.balance ++ (flat_map eight totals ++ (n.doors ∷ n.tilts ∷ ((n.handpay_kind ∷ 0 ∷ eight n.handpay_amount)
    ++ ((n.order_kind ∷ 0 ∷ 0 ∷ 0 ∷ eight n.orders ++ eight n.order_amount) ++ (flat_map kept_bytes kept ++ rest))))))

module _ (n : Numbers) (t0 t1 t2 t3 t4 t5 t6 t7 t8 t9 ta tb tc td te tf : ℕ) (a b c d e f g h i : Kept) (rest : List ℕ) where
  abbrev row : List ℕ
  row = behind_digest n (sixteen t0 t1 t2 t3 t4 t5 t6 t7 t8 t9 ta tb tc td te tf) (nine a b c d e f g h i) rest

  count_back : Short n.count → number_at 0 row ≡ n.count
  unfolding number_at
  count_back lt = from_be_bytes-to_be_bytes_8 n.count lt

  balance_back : Short n.balance → number_at 8 row ≡ n.balance
  unfolding number_at
  balance_back lt = from_be_bytes-to_be_bytes_8 n.balance lt

  totals_back : Each Short (sixteen t0 t1 t2 t3 t4 t5 t6 t7 t8 t9 ta tb tc td te tf) → sixteen_at 16 row ≡ sixteen t0 t1 t2 t3 t4 t5 t6 t7 t8 t9 ta tb tc td te tf
  unfolding number_at
  totals_back s =
      let n0 = from_be_bytes-to_be_bytes_8 t0 s.0 in
      let n1 = from_be_bytes-to_be_bytes_8 t1 s.1.0 in
      let n2 = from_be_bytes-to_be_bytes_8 t2 s.1.1.0 in
      let n3 = from_be_bytes-to_be_bytes_8 t3 s.1.1.1.0 in
      let n4 = from_be_bytes-to_be_bytes_8 t4 s.1.1.1.1.0 in
      let n5 = from_be_bytes-to_be_bytes_8 t5 s.1.1.1.1.1.0 in
      let n6 = from_be_bytes-to_be_bytes_8 t6 s.1.1.1.1.1.1.0 in
      let n7 = from_be_bytes-to_be_bytes_8 t7 s.1.1.1.1.1.1.1.0 in
      let n8 = from_be_bytes-to_be_bytes_8 t8 s.1.1.1.1.1.1.1.1.0 in
      let n9 = from_be_bytes-to_be_bytes_8 t9 s.1.1.1.1.1.1.1.1.1.0 in
      let na = from_be_bytes-to_be_bytes_8 ta s.1.1.1.1.1.1.1.1.1.1.0 in
      let nb = from_be_bytes-to_be_bytes_8 tb s.1.1.1.1.1.1.1.1.1.1.1.0 in
      let nc = from_be_bytes-to_be_bytes_8 tc s.1.1.1.1.1.1.1.1.1.1.1.1.0 in
      let nd = from_be_bytes-to_be_bytes_8 td s.1.1.1.1.1.1.1.1.1.1.1.1.1.0 in
      let ne = from_be_bytes-to_be_bytes_8 te s.1.1.1.1.1.1.1.1.1.1.1.1.1.1.0 in
      let nf = from_be_bytes-to_be_bytes_8 tf s.1.1.1.1.1.1.1.1.1.1.1.1.1.1.1.0 in
      λ j. sixteen (n0 j) (n1 j) (n2 j) (n3 j) (n4 j) (n5 j) (n6 j) (n7 j) (n8 j) (n9 j) (na j) (nb j) (nc j) (nd j) (ne j) (nf j)

  doors_back : slice_index row 144 ≡ n.doors
  doors_back = refl

  tilts_back : slice_index row 145 ≡ n.tilts
  tilts_back = refl

  handpay_back : Short n.handpay_amount → handpay_read 146 row ≡ handpay_by n.handpay_kind n.handpay_amount
  unfolding number_at
  handpay_back lt = let amount = from_be_bytes-to_be_bytes_8 n.handpay_amount lt in λ j. handpay_by n.handpay_kind (amount j)

  kind_back : slice_index row 156 ≡ n.order_kind
  kind_back = refl

  orders_back : Short n.orders → number_at 160 row ≡ n.orders
  unfolding number_at
  orders_back lt = from_be_bytes-to_be_bytes_8 n.orders lt

  left_back : Short n.order_amount → number_at 168 row ≡ n.order_amount
  unfolding number_at
  left_back lt = from_be_bytes-to_be_bytes_8 n.order_amount lt

  kept_back : Each (λ k. Short k.0) (nine a b c d e f g h i) → kept_reads 9 176 row ≡ nine a b c d e f g h i
  unfolding number_at
  kept_back t =
      let n1 = from_be_bytes-to_be_bytes_8 a.0 t.0 in
      let n2 = from_be_bytes-to_be_bytes_8 b.0 t.1.0 in
      let n3 = from_be_bytes-to_be_bytes_8 c.0 t.1.1.0 in
      let n4 = from_be_bytes-to_be_bytes_8 d.0 t.1.1.1.0 in
      let n5 = from_be_bytes-to_be_bytes_8 e.0 t.1.1.1.1.0 in
      let n6 = from_be_bytes-to_be_bytes_8 f.0 t.1.1.1.1.1.0 in
      let n7 = from_be_bytes-to_be_bytes_8 g.0 t.1.1.1.1.1.1.0 in
      let n8 = from_be_bytes-to_be_bytes_8 h.0 t.1.1.1.1.1.1.1.0 in
      let n9 = from_be_bytes-to_be_bytes_8 i.0 t.1.1.1.1.1.1.1.1.0 in
      λ j. nine (n1 j, reply_back a.1 j) (n2 j, reply_back b.1 j) (n3 j, reply_back c.1 j) (n4 j, reply_back d.1 j) (n5 j, reply_back e.1 j)
      (n6 j, reply_back f.1 j) (n7 j, reply_back g.1 j) (n8 j, reply_back h.1 j) (n9 j, reply_back i.1 j)

-- ================ all of the head, behind its digest

record RowBack (n : Numbers) (totals : List ℕ) (kept : List Kept) (row : List ℕ) : Type 0 where
  pub is_count : number_at 0 row ≡ n.count
  pub is_balance : number_at 8 row ≡ n.balance
  pub are_totals : sixteen_at 16 row ≡ totals
  pub are_doors : slice_index row 144 ≡ n.doors
  pub are_tilts : slice_index row 145 ≡ n.tilts
  pub is_handpay : handpay_read 146 row ≡ handpay_by n.handpay_kind n.handpay_amount
  pub is_kind : slice_index row 156 ≡ n.order_kind
  pub are_orders : number_at 160 row ≡ n.orders
  pub is_left : number_at 168 row ≡ n.order_amount
  pub are_kept : kept_reads 9 176 row ≡ kept

row_back : (n : Numbers) (totals : List ℕ) (kept : List Kept) (rest : List ℕ) → AreShort n → length totals ≡ 16 → length kept ≡ 9 → Each Short totals → Each (λ k. Short k.0) kept
    → RowBack n totals kept (behind_digest n totals kept rest)
row_back n (t0 ∷ t1 ∷ t2 ∷ t3 ∷ t4 ∷ t5 ∷ t6 ∷ t7 ∷ t8 ∷ t9 ∷ ta ∷ tb ∷ tc ∷ td ∷ te ∷ tf ∷ []) (a ∷ b ∷ c ∷ d ∷ e ∷ f ∷ g ∷ h ∷ i ∷ []) rest short l m s t = record {
  is_count = count_back n t0 t1 t2 t3 t4 t5 t6 t7 t8 t9 ta tb tc td te tf a b c d e f g h i rest short.count;
  is_balance = balance_back n t0 t1 t2 t3 t4 t5 t6 t7 t8 t9 ta tb tc td te tf a b c d e f g h i rest short.balance;
  are_totals = totals_back n t0 t1 t2 t3 t4 t5 t6 t7 t8 t9 ta tb tc td te tf a b c d e f g h i rest s;
  are_doors = doors_back n t0 t1 t2 t3 t4 t5 t6 t7 t8 t9 ta tb tc td te tf a b c d e f g h i rest;
  are_tilts = tilts_back n t0 t1 t2 t3 t4 t5 t6 t7 t8 t9 ta tb tc td te tf a b c d e f g h i rest;
  is_handpay = handpay_back n t0 t1 t2 t3 t4 t5 t6 t7 t8 t9 ta tb tc td te tf a b c d e f g h i rest short.handpay_amount;
  is_kind = kind_back n t0 t1 t2 t3 t4 t5 t6 t7 t8 t9 ta tb tc td te tf a b c d e f g h i rest;
  are_orders = orders_back n t0 t1 t2 t3 t4 t5 t6 t7 t8 t9 ta tb tc td te tf a b c d e f g h i rest short.orders;
  is_left = left_back n t0 t1 t2 t3 t4 t5 t6 t7 t8 t9 ta tb tc td te tf a b c d e f g h i rest short.order_amount;
  are_kept = kept_back n t0 t1 t2 t3 t4 t5 t6 t7 t8 t9 ta tb tc td te tf a b c d e f g h i rest t;
}
row_back n totals (a ∷ b ∷ c ∷ d ∷ e ∷ f ∷ g ∷ h ∷ i ∷ []) rest short l m s t = absurd (omega (arith, l))
row_back n totals kept rest short l m s t = absurd (omega (arith, m))

-- ================ all of the head

pub record HeadBack (digest : List ℕ) (n : Numbers) (totals : List ℕ) (kept : List Kept) (payload : List ℕ) : Type 0 where
  pub is_digest : take SETUP_DIGEST_LEN payload ≡ digest
  pub is_count : number_at COUNT_AT payload ≡ n.count
  pub is_balance : number_at BALANCE_AT payload ≡ n.balance
  pub are_totals : sixteen_at TOTALS_AT payload ≡ totals
  pub are_doors : slice_index payload DOORS_AT ≡ n.doors
  pub are_tilts : slice_index payload TILTS_AT ≡ n.tilts
  pub is_handpay : handpay_read HANDPAY_AT payload ≡ handpay_by n.handpay_kind n.handpay_amount
  pub is_kind : slice_index payload ORDER_AT ≡ n.order_kind
  pub are_orders : number_at ORDERS_AT payload ≡ n.orders
  pub is_left : number_at ORDER_AMOUNT_AT payload ≡ n.order_amount
  pub are_kept : kept_reads 9 KEPT_AT payload ≡ kept

module _ (digest r : List ℕ) (len : length digest ≡ SETUP_DIGEST_LEN) where
  at : (k : ℕ) → number_at (SETUP_DIGEST_LEN + k) (digest ++ r) ≡ number_at k r
  at k = number_behind SETUP_DIGEST_LEN k digest r len

  byte : (k : ℕ) → slice_index (digest ++ r) (SETUP_DIGEST_LEN + k) ≡ slice_index r k
  byte k = byte_behind SETUP_DIGEST_LEN k digest r len

  totals_behind : sixteen_at TOTALS_AT (digest ++ r) ≡ sixteen_at 16 r
  totals_behind = λ j. sixteen (at 16 j) (at 24 j) (at 32 j) (at 40 j) (at 48 j) (at 56 j) (at 64 j) (at 72 j) (at 80 j) (at 88 j) (at 96 j) (at 104 j) (at 112 j) (at 120 j) (at 128 j) (at 136 j)

  handpay_behind : handpay_read HANDPAY_AT (digest ++ r) ≡ handpay_read 146 r
  handpay_behind = λ j. handpay_by (byte 146 j) (at 148 j)

  kept_behind : kept_reads 9 KEPT_AT (digest ++ r) ≡ kept_reads 9 176 r
  kept_behind = λ j. nine (at 176 j, reply_of (byte 184 j) (byte 185 j) (byte 186 j)) (at 188 j, reply_of (byte 196 j) (byte 197 j) (byte 198 j))
      (at 200 j, reply_of (byte 208 j) (byte 209 j) (byte 210 j)) (at 212 j, reply_of (byte 220 j) (byte 221 j) (byte 222 j))
      (at 224 j, reply_of (byte 232 j) (byte 233 j) (byte 234 j)) (at 236 j, reply_of (byte 244 j) (byte 245 j) (byte 246 j))
      (at 248 j, reply_of (byte 256 j) (byte 257 j) (byte 258 j)) (at 260 j, reply_of (byte 268 j) (byte 269 j) (byte 270 j))
      (at 272 j, reply_of (byte 280 j) (byte 281 j) (byte 282 j))

pub head_back : (digest : List ℕ) (n : Numbers) (totals : List ℕ) (kept : List Kept) (rest : List ℕ) → length digest ≡ SETUP_DIGEST_LEN → AreShort n → length totals ≡ 16 → length kept ≡ 9
    → Each Short totals → Each (λ k. Short k.0) kept → HeadBack digest n totals kept (digest ++ behind_digest n totals kept rest)
head_back digest n totals kept rest len short l m s t =
    let r = behind_digest n totals kept rest in
    let b = row_back n totals kept rest short l m s t in
    record {
      is_digest = take_at digest r SETUP_DIGEST_LEN len;
      is_count = at digest r len 0 ∙ b.is_count;
      is_balance = at digest r len 8 ∙ b.is_balance;
      are_totals = totals_behind digest r len ∙ b.are_totals;
      are_doors = byte digest r len 144 ∙ b.are_doors;
      are_tilts = byte digest r len 145 ∙ b.are_tilts;
      is_handpay = handpay_behind digest r len ∙ b.is_handpay;
      is_kind = byte digest r len 156 ∙ b.is_kind;
      are_orders = at digest r len 160 ∙ b.are_orders;
      is_left = at digest r len 168 ∙ b.is_left;
      are_kept = kept_behind digest r len ∙ b.are_kept;
    }
