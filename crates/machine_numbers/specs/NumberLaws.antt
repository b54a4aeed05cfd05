-- What the types of numbers have in common.
use Rattle.std.specs.Prelude.{◌≡◌, ◌≤◌, ◌⊎◌, ℕ, ℤ, pos, Bool, true, false, if◌then◌else◌}
use Rattle.std.proofs.Common.{refl, inl, inr, arith}
use Rattle.std.proofs.lemmas.Bool.{false≢true}
use Rattle.elem_descr.specs.declared.scalar.Order.{Order}
use Rattle.elem_descr.specs.declared.scalar.Order.TheVariants.{Little}
use Rattle.elem_descr.specs.declared.scalar.Scalar.{Scalar}
use Rattle.elem_descr.specs.declared.scalar.Scalar.TheVariants.{Bool as BoolScalar, Byte, Int}
use Rattle.elem_descr.specs.declared.scalar.Width.{Width}
use Rattle.elem_descr.specs.declared.scalar.Width.TheVariants.{Two, Four, Eight}
use Rattle.elem_descr.specs.Encoding.{IsNumber, size, width_size}
use Rattle.machine_numbers.specs.Kinds.{is_bool, little}

-- the scalars of a type with these values are numbers of `width` bytes, in two byte orders
pub record AreNumbers {X : Type 0} (value : X → ℤ) (scalar : Order → Scalar) (width : ℕ) : Type 0 where
  pub is_number : (order : Order) → IsNumber (scalar order)
  pub has_width : (order : Order) → size (scalar order) ≡ width
  pub is_small : (1 ≤ width) × (width ≤ 8)
  pub is_little : (order : Order) → little (scalar order) ≡ scalar Little
  pub is_truth : (order : Order) (x : X) → is_bool (scalar order) ≡ true → (value x ≡ pos 0) ⊎ (value x ≡ pos 1)

pub of_bool : AreNumbers (λ b. if b then pos 1 else pos 0) (λ order. BoolScalar) 1
of_bool = record {
  is_number = λ order. tt;
  has_width = λ order. refl;
  is_small = (omega arith, omega arith);
  is_little = λ order. refl;
  is_truth = λ order. elim [ true ↦ λ _. inr refl | false ↦ λ _. inl refl ];
}

pub of_byte : {X : Type 0} {value : X → ℤ} (signed : Bool) → AreNumbers value (λ order. Byte signed) 1
of_byte signed = record {
  is_number = λ order. tt;
  has_width = λ order. refl;
  is_small = (omega arith, omega arith);
  is_little = λ order. refl;
  is_truth = λ order x is. absurd (false≢true is);
}

small_width : (width : Width) → (1 ≤ width_size width) × (width_size width ≤ 8)
small_width Two = (omega arith, omega arith)
small_width Four = (omega arith, omega arith)
small_width Eight = (omega arith, omega arith)

pub of_int : {X : Type 0} {value : X → ℤ} (signed : Bool) (width : Width) → AreNumbers value (λ order. Int signed width order) (width_size width)
of_int signed width = record {
  is_number = λ order. tt;
  has_width = λ order. refl;
  is_small = small_width width;
  is_little = λ order. refl;
  is_truth = λ order x is. absurd (false≢true is);
}
