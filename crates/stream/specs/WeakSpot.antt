-- Mode two's weak spot without parity: a stray D3 takes the UBX frame behind it into an RTCM frame. A D3 just before a frame reads B5 62 as the
-- length 354 (the low 10 bits), so it takes 357 bytes.
use Rattle.std.specs.Prelude.{◌≡◌, false, ℕ, ◌+◌, ◌≤◌, ◌<◌, length, drop, replicate}
use mathlib.Core.List.{List, ◌∷◌, ◌++◌, Memᴰ as Among}
use Rattle.window.specs.declared.Mode.TheVariants.{Two}
use Rattle.framer.specs.Bench.{frame_t}
use Rattle.stream.specs.Scan.{rtcm_frame, Event, scan}
use Rattle.stream.specs.Interface.{GoodFrame}

-- the smallest stream in which one stray byte loses T: one byte less, and all of it is unfinished tail
abbrev pub one_byte : ℕ → List ℕ
one_byte n = 0xD3 ∷ frame_t ++ replicate n 0

-- the smallest in which any stray bytes do: D3 and a length of 1 take the first byte of T
abbrev pub three_bytes : List ℕ
three_bytes = 0xD3 ∷ 0x00 ∷ 0x01 ∷ frame_t

-- no smaller stream does: where a good frame at p lies inside an RTCM frame, there are 11 bytes at least, and 357 where that begins one
-- byte before p
abbrev pub NoSmallerLoss : Type 0
NoSmallerLoss =
    (max : ℕ) (stream : List ℕ) (p class id : ℕ) (payload : List ℕ) → GoodFrame max (drop p stream) class id payload
    → (f : Event) → Among f (scan (Two false) max stream).answers → (body : List ℕ) → f.said ≡ rtcm_frame body → f.at < p → p < f.at + length body
    → (11 ≤ length stream) × (f.at + 1 ≡ p → 357 ≤ length stream)
