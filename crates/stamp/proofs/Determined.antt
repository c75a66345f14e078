-- Two outcomes that one contract allows are the same.
use mathlib.Core.Path.{◌≡◌, refl, sym, ap, ◌∙◌}
use mathlib.Core.List.{List, [], ◌∷◌}
use Prim.Native.Nat.{ℕ}
use lib.ListN.{get_or}
use Rattle.std.specs.Prelude.{Option, None, Some, Result, Ok, Err}
use Rattle.framer.proofs.Determined.{same_answer}
use Rattle.stamp.specs.declared.Fault.{Fault, TheVariants.{NotThisMessage, NotValid, Field}}
use Rattle.stamp.specs.declared.Reading.{Reading, TheVariants.{Stamp, BackBy}}
use Rattle.stamp.specs.declared.Heard.{Heard}
use Rattle.stamp.specs.declared.Timed.{Timed}
use Rattle.stamp.specs.Step.{TimedOut}
use Rattle.stamp.specs.Promises.{fault_no, number, values, told_number, told_values, Reads, Times}

-- ---- a number and values are those of one reading only: each is read back

abbrev fault_by : ℕ → Fault
fault_by n = get_or (Field ∷ NotThisMessage ∷ NotValid ∷ []) n Field

fault_back : (f : Fault) → fault_by (fault_no f) ≡ f
fault_back NotThisMessage = refl
fault_back NotValid = refl
fault_back Field = refl

abbrev reading_by : ℕ → List ℕ → Result Reading Fault
reading_by n vs = let v = get_or vs 0 0 in get_or (Err (fault_by v) ∷ Ok (Stamp v) ∷ Ok (BackBy v) ∷ []) n (Err (fault_by v))

reading_back : (r : Result Reading Fault) → reading_by (number r) (values r) ≡ r
reading_back (Ok (Stamp t)) = refl
reading_back (Ok (BackBy d)) = refl
reading_back (Err f) = ap Err (fault_back f)

pub same_reading : (r q : Result Reading Fault) → number r ≡ number q → values r ≡ values q → r ≡ q
same_reading r q n v = sym (reading_back r) ∙ rw (n, v) (reading_back q)

abbrev told_by : ℕ → List ℕ → Option (Result Reading Fault)
told_by n vs = get_or (None ∷ []) n (Some (reading_by n vs))

told_back : (t : Option (Result Reading Fault)) → told_by (told_number t) (told_values t) ≡ t
told_back None = refl
told_back (Some (Ok (Stamp t))) = refl
told_back (Some (Ok (BackBy d))) = refl
told_back (Some (Err f)) = ap (λ (x : Fault). Some (Err x)) (fault_back f)

same_told : (t u : Option (Result Reading Fault)) → told_number t ≡ told_number u → told_values t ≡ told_values u → t ≡ u
same_told t u n v = sym (told_back t) ∙ rw (n, v) (told_back u)

-- ---- what each contract promises is one outcome, so two that it allows are the same

pub reads_is : (is r : Heard) → Reads is r → r ≡ is
reads_is is r h = rw (same_reading r.reading is.reading h.number h.values, h.clock)

pub is_reads : (is r : Heard) → r ≡ is → Reads is r
is_reads is r e = rw e (record { number = refl; values = refl; clock = refl })

pub reads_determined : (is r q : Heard) → Reads is r → Reads is q → r ≡ q
reads_determined is r q h k = reads_is is r h ∙ sym (reads_is is q k)

pub times_is : (is : TimedOut) (r : Timed) (carry : List ℕ) → Times is r carry → (r ≡ is.result) × (carry ≡ is.carry)
times_is is r carry h =
    (rw (same_answer r.answer is.result.answer h.number h.values, same_told r.told is.result.told h.told_number h.told_values, h.clock, h.state), h.bytes)

pub is_times : (is : TimedOut) (r : Timed) (carry : List ℕ) → r ≡ is.result → carry ≡ is.carry → Times is r carry
is_times is r carry e b = rw e (record { number = refl; values = refl; told_number = refl; told_values = refl; clock = refl; state = refl; bytes = b })

pub times_determined : (is : TimedOut) (r q : Timed) (c d : List ℕ) → Times is r c → Times is q d → (r ≡ q) × (c ≡ d)
times_determined is r q c d h k =
    let a = times_is is r c h in
    let b = times_is is q d k in
    (a.0 ∙ sym b.0, a.1 ∙ sym b.1)
