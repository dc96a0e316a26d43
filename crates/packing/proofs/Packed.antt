-- What is packed is unpacked again, where each number fits its bits; a refusal's do.
-- Assumes nothing.
use mathlib.Core.Path.{◌≡◌}
use Prim.Native.Nat.{ℕ, ◌+◌, ◌*◌, ◌/◌, ◌%◌, ◌≤◌}
use native.Mathlib.Omega.{arith}
use Rattle.facts.specs.declared.Code.{Code}
use Rattle.facts.specs.declared.Refusal.{Refusal}
use Rattle.facts.specs.Results.{Refused}
use Rattle.facts.specs.Answers.{code_of}
use Rattle.facts.proofs.Codes.{number-within}
use Rattle.packing.specs.Packed.{packed, unpacked, Small}

-- what is packed is unpacked again
pub unpack-pack : (c : Code) → Small c → unpacked (packed c) ≡ c
unfolding unpacked
unpack-pack c s =
    let n : packed c % 256 ≡ c.number = omega (arith, s.number) in
    let q : packed c / 256 ≡ c.place + 16777216 * c.count + 1099511627776 * c.filling = omega (arith, s.number) in
    let p : packed c / 256 % 16777216 ≡ c.place = rw q (omega (arith, s.place)) in
    let h : packed c / 4294967296 ≡ c.count + 65536 * c.filling = omega (arith, s.number, s.place) in
    let k : packed c / 4294967296 % 65536 ≡ c.count = rw h (omega (arith, s.count)) in
    let g : packed c / 281474976710656 ≡ c.filling = omega (arith, s.number, s.place, s.count) in
    let x : packed c / 281474976710656 % 65536 ≡ c.filling = rw g (omega (arith, s.filling)) in
    λ i. record { number = n i; place = p i; count = k i; filling = x i }

pub refused-small : (r : Refusal) (place : ℕ) → place ≤ 65536 → Small (code_of (Refused r place))
refused-small r place h = record { number = omega (arith, number-within r); place = omega arith; count = omega arith; filling = omega arith }
