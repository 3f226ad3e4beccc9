-- A sealed copy of a payload, and what two of them boot to.
use Rattle.std.specs.Prelude.{Bool, true, false, ◌≡◌, ℕ, zero, suc, ◌+◌, ◌*◌, ◌^◌, ◌<◌, ◌≤◌, ◌==◌, if◌then◌else◌, nat_lt, List, [], ◌∷◌, ◌++◌, take, drop, slice_index, Option, Some, None}
use Rattle.std.specs.Int.{w16, w64, to_be_bytes, from_be_bytes}
use Rattle.std.specs.Str.{bytes_eq}
use Rattle.sha2.specs.Sha256.{sha256}
use Rattle.gd_store.specs.declared.copy.layout.Layout.{Layout}
use Rattle.gd_store.specs.declared.copy.states.Found.{Found}
use Rattle.gd_store.specs.declared.copy.states.Why.TheVariants.{Shut, BadHeader, BadRoot, BadPage}
use Rattle.gd_store.specs.declared.copy.states.CopyState.{CopyState}
use Rattle.gd_store.specs.declared.copy.states.CopyState.TheVariants.{Sound, Bad}
use Rattle.gd_disk.specs.declared.side.Side.{Side}
use Rattle.gd_disk.specs.declared.lengths.TheConstants.{DIGEST_LEN, DIGESTS_AT, FRAME_LEN, HEADER_LEN, PAGE_LEN}
use Rattle.gd_store.specs.declared.copy.layout.TheConstants.{OPEN}

-- n bytes of a list from a place on
abbrev pub part : ℕ → ℕ → List ℕ → List ℕ
part at n bytes = take n (drop at bytes)

-- a gate, a header, a digest for each page, a seal of header and digests, and the pages
abbrev pub copy_len : ℕ → ℕ
copy_len pages = FRAME_LEN + DIGEST_LEN * pages + PAGE_LEN * pages

-- the name, the version and the page count, with which a header begins
unfoldable pub header_start : Layout → List ℕ
header_start l = (71 ∷ 68 ∷ 67 ∷ 77 ∷ []) ++ to_be_bytes w16 l.version ++ to_be_bytes w16 l.pages

-- page i of a payload
abbrev pub page : ℕ → List ℕ → List ℕ
page i payload = part (PAGE_LEN * i) PAGE_LEN payload

-- the digests of its first n pages
unfoldable pub digests : ℕ → List ℕ → List ℕ
digests zero payload = []
digests (suc n) payload = digests n payload ++ sha256 (page n payload)

-- header and digests
unfoldable pub head_of : Layout → ℕ → List ℕ → List ℕ
head_of l sequence payload = header_start l ++ to_be_bytes w64 sequence ++ digests l.pages payload

-- what stands between the gate and the pages
unfoldable pub front_of : Layout → ℕ → List ℕ → List ℕ
front_of l sequence payload = head_of l sequence payload ++ sha256 (head_of l sequence payload)

-- what stands behind the gate
unfoldable pub body_of : Layout → ℕ → List ℕ → List ℕ
body_of l sequence payload = head_of l sequence payload ++ sha256 (head_of l sequence payload) ++ payload

-- the open copy of a payload at a sequence, as it's written
unfoldable pub sealed_copy : Layout → ℕ → List ℕ → List ℕ
sealed_copy l sequence payload = OPEN ∷ body_of l sequence payload

-- ---- any bytes read as a copy

-- the sequence in its header
unfoldable pub stored_sequence : List ℕ → ℕ
stored_sequence copy = from_be_bytes w64 (part 9 8 copy)

-- its header and digests
unfoldable pub stored_head : Layout → List ℕ → List ℕ
stored_head l copy = part 1 (HEADER_LEN + DIGEST_LEN * l.pages) copy

-- its seal
unfoldable pub stored_seal : Layout → List ℕ → List ℕ
stored_seal l copy = part (DIGESTS_AT + DIGEST_LEN * l.pages) DIGEST_LEN copy

-- its pages
unfoldable pub stored_payload : Layout → List ℕ → List ℕ
stored_payload l copy = part (FRAME_LEN + DIGEST_LEN * l.pages) (PAGE_LEN * l.pages) copy

-- the digest that is kept for page i
unfoldable pub stored_digest : ℕ → List ℕ → List ℕ
stored_digest i copy = part (DIGESTS_AT + DIGEST_LEN * i) DIGEST_LEN copy

-- whether page i has its digest
unfoldable pub page_matches : Layout → List ℕ → ℕ → Bool
page_matches l copy i = bytes_eq (sha256 (page i (stored_payload l copy))) (stored_digest i copy)

-- the lowest page without its digest, of n pages from page i on
unfoldable pub lowest_bad : Layout → List ℕ → ℕ → ℕ → Option ℕ
lowest_bad l copy i zero = None
lowest_bad l copy i (suc n) = if page_matches l copy i then lowest_bad l copy (i + 1) n else Some i

-- a copy whose header and seal are right, by its lowest bad page
abbrev pub pages_state : ℕ → Option ℕ → CopyState
pages_state sequence None = Sound sequence
pages_state sequence (Some i) = Bad (BadPage i)

-- sound, or the first of shut, header, root and page that applies
unfoldable pub state_of : Layout → List ℕ → CopyState
state_of l copy =
    if slice_index copy 0 == OPEN then
    (if bytes_eq (part 1 8 copy) (header_start l) then
    (if bytes_eq (sha256 (stored_head l copy)) (stored_seal l copy) then
    pages_state (stored_sequence copy) (lowest_bad l copy 0 l.pages)
    else Bad BadRoot)
    else Bad BadHeader)
    else Bad Shut

-- the bytes of the two copies of an image
abbrev pub copy_a : Layout → List ℕ → List ℕ
copy_a l image = part l.a (copy_len l.pages) image

abbrev pub copy_b : Layout → List ℕ → List ℕ
copy_b l image = part l.b (copy_len l.pages) image

-- the place of a copy's gate, and its bytes, by which of the two it is
abbrev pub gate_at : Layout → Side → ℕ
gate_at l Side.A = l.a
gate_at l Side.B = l.b

abbrev pub copy_at : Layout → Side → List ℕ → List ℕ
copy_at l Side.A image = copy_a l image
copy_at l Side.B image = copy_b l image

-- of two copies with these states and payloads, sequence and payload of the sound one with the later sequence; none where
-- no copy is sound, or both are with one sequence and different payloads
abbrev pub latest_copy : CopyState → CopyState → List ℕ → List ℕ → Option (ℕ × List ℕ)
latest_copy (Sound m) (Sound n) p q = if nat_lt m n then Some (n, q) else (if nat_lt n m then Some (m, p) else (if bytes_eq p q then Some (m, p) else None))
latest_copy (Sound m) (Bad why) p q = Some (m, p)
latest_copy (Bad why) (Sound n) p q = Some (n, q)
latest_copy (Bad why) (Bad other) p q = None

-- what an image boots to
abbrev pub boots : Layout → List ℕ → Option (ℕ × List ℕ)
boots l image = latest_copy (state_of l (copy_a l image)) (state_of l (copy_b l image)) (stored_payload l (copy_a l image)) (stored_payload l (copy_b l image))

-- a copy is sound at this sequence, with this payload
abbrev pub IsCopy : Layout → ℕ → List ℕ → List ℕ → Type 0
IsCopy l sequence payload copy = (state_of l copy ≡ Sound sequence) × (stored_payload l copy ≡ payload)

-- both copies hold this payload at this sequence
abbrev pub HoldsBoth : Layout → ℕ → List ℕ → List ℕ → Type 0
HoldsBoth l sequence payload image = IsCopy l sequence payload (copy_a l image) × IsCopy l sequence payload (copy_b l image)

-- both copies of what a read gives hold the payload, where the disk tells it
abbrev pub Holds : Layout → ℕ → List ℕ → Option (List ℕ) → Type 0
Holds l sequence payload seen = (image : List ℕ) → seen ≡ Some image → HoldsBoth l sequence payload image

-- as it was sealed
abbrev pub is_sound : CopyState → Bool
is_sound (Sound sequence) = true
is_sound (Bad why) = false

-- no copy is sound
pub record AreBad (l : Layout) (image : List ℕ) : Type 0 where
  pub a : is_sound (state_of l (copy_a l image)) ≡ false
  pub b : is_sound (state_of l (copy_b l image)) ≡ false

-- the states of the two copies of an image
abbrev pub found_in : Layout → List ℕ → Found
found_in l image = record { a = state_of l (copy_a l image); b = state_of l (copy_b l image) }

-- the two copies of a layout lie apart, within this many bytes
pub record LiesWithin (l : Layout) (size : ℕ) : Type 0 where
  pub apart : l.a + copy_len l.pages ≤ l.b
  pub within : l.b + copy_len l.pages ≤ size
  pub bounded : size < 2 ^ 64
