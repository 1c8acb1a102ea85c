-- The cutoff: which ones are allowed, how easing moves one, when a branch is cut, and how one is kept as two numbers.
use Rattle.std.specs.Prelude.{ℕ, ◌*◌, Bool, true, false, cond, pos, Some, None, Ok, Err, Option, Result, ◌==◌, from_bits, nat_le, to_bits, Float}
use Rattle.std.specs.Float.{binary64}
use Rattle.std.specs.Float.Ieee.{mul, lt, of_int}
use Rattle.cutoff.specs.declared.kinds.Cutoff.{Cutoff}
use Rattle.cutoff.specs.declared.kinds.Cutoff.TheVariants.{Never, Depth, Share, Easing}
use Rattle.cutoff.specs.declared.keeping.Kind.{Kind}
use Rattle.cutoff.specs.declared.keeping.Kind.TheVariants as kind
use Rattle.cutoff.specs.declared.kinds.Refusal.{Refusal}
use Rattle.cutoff.specs.declared.kinds.Refusal.TheVariants.{OutOfRange}
use Rattle.cutoff.specs.Theta.{in_range, scaled}

-- a depth is from 0 to 2,048, a threshold from 0.001 to 1,000,000,000
abbrev pub allowed : Cutoff → Bool
allowed Never = true
allowed (Depth d) = nat_le d 2048
allowed (Share θ) = in_range θ
allowed (Easing θ) = in_range θ

-- any other cutoff is refused, with the number 21
abbrev pub check_reply : Cutoff → Result (Unit {0}) Refusal
check_reply c = cond (allowed c) (Ok tt) (Err OutOfRange)

abbrev pub number_of : Refusal → ℕ
number_of OutOfRange = 21

-- only an easing threshold is moved, by a factor
abbrev pub eased : Float → Cutoff → Cutoff
eased by Never = Never
eased by (Depth d) = Depth d
eased by (Share θ) = Share θ
eased by (Easing θ) = Easing (scaled by θ)

-- a number that is greater than θ·n
abbrev pub exceeds : ℕ → Float → ℕ → Bool
exceeds n θ product = lt (mul binary64 θ (of_int binary64 (pos n))) (of_int binary64 (pos product))

-- whether a branch is cut: of n variables, with its decisions, and with how many variables are set
abbrev pub cuts_at : Cutoff → ℕ → ℕ → ℕ → Bool
cuts_at Never n decisions set = false
cuts_at (Depth d) n decisions set = nat_le d decisions
cuts_at (Share θ) n decisions set = exceeds n θ (decisions * set)
cuts_at (Easing θ) n decisions set = exceeds n θ (decisions * set)

-- as two numbers: the first is the kind's
abbrev pub kind_number : Kind → ℕ
kind_number kind.Never = 0
kind_number kind.Depth = 1
kind_number kind.Share = 2
kind_number kind.Easing = 3

-- the kind that a number stands for
abbrev pub kind_at : ℕ → Option Kind
kind_at n = cond (n == 0) (Some kind.Never) (cond (n == 1) (Some kind.Depth) (cond (n == 2) (Some kind.Share) (cond (n == 3) (Some kind.Easing) None)))

abbrev pub kind_of : Cutoff → Kind
kind_of Never = kind.Never
kind_of (Depth d) = kind.Depth
kind_of (Share θ) = kind.Share
kind_of (Easing θ) = kind.Easing

abbrev pub first_of : Cutoff → ℕ
first_of Never = 0
first_of (Depth d) = 1
first_of (Share θ) = 2
first_of (Easing θ) = 3

-- and the second is nothing (0), the depth, or the threshold's bits
abbrev pub bits_of : Cutoff → ℕ
bits_of Never = 0
bits_of (Depth d) = d
bits_of (Share θ) = to_bits binary64 θ
bits_of (Easing θ) = to_bits binary64 θ

-- the cutoff that a kind and a number stand for
abbrev pub cutoff_of : Kind → ℕ → Cutoff
cutoff_of kind.Never bits = Never
cutoff_of kind.Depth bits = Depth bits
cutoff_of kind.Share bits = Share (from_bits binary64 bits)
cutoff_of kind.Easing bits = Easing (from_bits binary64 bits)
