-- u-blox's interface description, "UBX frame structure" and "UBX checksum", written from it alone.
use Rattle.std.specs.Prelude.{◌≡◌, ℕ, zero, suc, ◌+◌, ◌*◌, ◌/◌, ◌%◌, ◌≤◌, ◌<◌, List, [], ◌∷◌, ◌++◌, length, get_or}

-- ---- the checksum

pub record Checksum : Type 0 where
  pub ck_a : ℕ
  pub ck_b : ℕ

-- the 8-bit Fletcher algorithm over Buffer[N]:
--   CK_A = 0, CK_B = 0
--   for (I = 0; I < N; I++) { CK_A = CK_A + Buffer[I]; CK_B = CK_B + CK_A }
-- with both masked to 8 bits after both operations in the loop
abbrev pub added : Checksum → ℕ → Checksum
added ck byte =
    let a = ck.ck_a + byte in
    let b = ck.ck_b + a in
    record { ck_a = a % 256; ck_b = b % 256 }

unfoldable pub loop : List ℕ → ℕ → ℕ → Checksum → Checksum
loop buffer zero i ck = ck
loop buffer (suc turns) i ck = loop buffer turns (i + 1) (added ck (get_or buffer i 0))

abbrev pub checksum : List ℕ → Checksum
checksum buffer = loop buffer (length buffer) 0 (record { ck_a = 0; ck_b = 0 })

-- ---- the frame

-- the length of the payload: two bytes, little-endian
abbrev pub length_bytes : List ℕ → List ℕ
length_bytes payload = length payload % 256 ∷ length payload / 256 ∷ []

-- what the checksum is calculated over: from the class on, up to the checksum
abbrev pub summed : ℕ → ℕ → List ℕ → List ℕ
summed class id payload = class ∷ id ∷ length_bytes payload ++ payload

-- sync characters B5 62, class, id, length, payload, and two bytes after it
abbrev pub framed : ℕ → ℕ → List ℕ → ℕ → ℕ → List ℕ
framed class id payload a b = 0xB5 ∷ 0x62 ∷ summed class id payload ++ a ∷ b ∷ []

-- in a frame, these are CK_A and CK_B
abbrev pub frame : ℕ → ℕ → List ℕ → List ℕ
frame class id payload = let ck = checksum (summed class id payload) in framed class id payload ck.ck_a ck.ck_b

-- ---- what stands at the front of a window

-- a whole frame, with a payload of at most max bytes
pub record GoodFrame (max : ℕ) (W : List ℕ) (class id : ℕ) (payload : List ℕ) : Type 0 where
  pub fits : length payload ≤ max
  pub rest : List ℕ
  pub stands : W ≡ frame class id payload ++ rest

-- a whole head with a length of at most max, as many bytes and two more, which are not the checksum: the pair received, and the true one
pub record WrongFrame (max : ℕ) (W : List ℕ) (class id : ℕ) (payload : List ℕ) (received computed : ℕ) : Type 0 where
  pub a : ℕ
  pub b : ℕ
  pub rest : List ℕ
  pub fits : length payload ≤ max
  pub stands : W ≡ framed class id payload a b ++ rest
  pub wrong : a ≡ (checksum (summed class id payload)).ck_a → b ≡ (checksum (summed class id payload)).ck_b → ⊥
  pub pair : received ≡ a + 256 * b
  pub true_pair : computed ≡ (checksum (summed class id payload)).ck_a + 256 * (checksum (summed class id payload)).ck_b

-- each byte is below 256
abbrev pub Bytes : List ℕ → Type 0
Bytes W = (i : ℕ) → get_or W i 0 < 256
