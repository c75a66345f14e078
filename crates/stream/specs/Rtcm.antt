-- RTCM 10403's transport layer, written from it alone.
use Rattle.std.specs.Prelude.{◌≡◌, ℕ, ◌+◌, ◌*◌, ◌/◌, ◌%◌, ◌≤◌, List, [], ◌∷◌, ◌++◌, length}
use Rattle.parity.specs.Parity.{parity_of}

-- the preamble 11010011, six reserved bits (a number below 64, where the frame's bytes are bytes), the message's length in ten bits,
-- and the message
abbrev pub headed : ℕ → List ℕ → List ℕ
headed reserved message = 0xD3 ∷ (4 * reserved + length message / 256) ∷ length message % 256 ∷ message

-- behind them the parity, 24 bits: CRC-24Q over all that stands before it, high byte first
abbrev pub parity_bytes : ℕ → List ℕ
parity_bytes crc = crc / 65536 ∷ crc / 256 % 256 ∷ crc % 256 ∷ []

abbrev pub rtcm : ℕ → List ℕ → List ℕ
rtcm reserved message = headed reserved message ++ parity_bytes (parity_of (headed reserved message))

-- ---- what stands at the front of a window

-- ten bits name a length up to 1,023
abbrev pub longest : ℕ
longest = 1023

-- a whole frame
pub record GoodRtcm (W : List ℕ) (reserved : ℕ) (message : List ℕ) : Type 0 where
  pub fits : length message ≤ longest
  pub rest : List ℕ
  pub stands : W ≡ rtcm reserved message ++ rest

-- a head, its message, and three bytes more, which are not the parity: the one received, and the true one
pub record WrongRtcm (W : List ℕ) (reserved : ℕ) (message : List ℕ) (received computed : ℕ) : Type 0 where
  pub high : ℕ
  pub middle : ℕ
  pub low : ℕ
  pub rest : List ℕ
  pub fits : length message ≤ longest
  pub stands : W ≡ headed reserved message ++ high ∷ middle ∷ low ∷ rest
  pub as_received : received ≡ 65536 * high + 256 * middle + low
  pub as_computed : computed ≡ parity_of (headed reserved message)
  pub wrong : received ≡ computed → ⊥
