-- Numbers that are counted by their lowest 64 bits, and read back from their bytes.
use Rattle.std.proofs.Common.{◌≡◌, ℕ, zero, suc, ◌+◌, ◌*◌, ◌%◌, ◌^◌, ◌<◌, inl, inr, Bool, true, false, List, [], ◌∷◌, ◌++◌, length, take, map, refl, sym, ap, ◌∙◌, arith, ℤ, pos, ◌+ℤ◌, ◌*ℤ◌, append-nil}
use Rattle.literal_items.proofs.Words.{Decides-int_eq, wrap, w64, cast_signed, cast_unsigned, int_wrap, list_all, range_with_len, ints, wrapping_add-bits, int_wrap-add_left, int_wrap-add_right, of_z-to_z, take_all, map-map, map-range_with_len_more, get_or-map-range_with_len, AllPass-from_list_all, mod-lt, Scalar, Byte, number, IsNumber, IsValueOf, FitsBytes, is_value, size, integer, low_bits, decode, encode, low_bits-lt, decode_encode, integer-low_bits, int_wrap-low_bits, decode_item, blocks, items_in, numbers_from, next_number, length-numbers_from, length-encode, fits_eight_bytes, value_decides, joined, length-joined, AreBits, BoolScalar, IntScalar, BytesScalar, ScalarDescr, numbered}
use Rattle.literal_items.proofs.Blocked.{map-blocks-put}

-- ---- the lowest bits of the next number

low_bits-add : (u v : ℤ) → low_bits 8 (u +ℤ v) ≡ (low_bits 8 u + low_bits 8 v) % 2 ^ 64
low_bits-add u v =
    let x = low_bits 8 u in
    let y = low_bits 8 v in
    let same : cast_signed w64 (low_bits 8 (u +ℤ v)) ≡ cast_signed w64 ((x + y) % 2 ^ 64) =
    sym (int_wrap-low_bits (u +ℤ v))
    ∙ sym (int_wrap-add_left w64 u v)
    ∙ sym (int_wrap-add_right w64 (int_wrap w64 u) v)
    ∙ (λ i. int_wrap w64 (int_wrap-low_bits u i +ℤ int_wrap-low_bits v i))
    ∙ sym (wrapping_add-bits w64 x y (low_bits-lt 8 u) (low_bits-lt 8 v)) in
    sym (of_z-to_z w64 (low_bits 8 (u +ℤ v)) (low_bits-lt 8 (u +ℤ v)))
    ∙ ap (cast_unsigned w64) same
    ∙ of_z-to_z w64 ((x + y) % 2 ^ 64) (mod-lt (x + y) (omega arith))

pub next_bits : (start step : ℤ) (k bits : ℕ) → bits ≡ low_bits 8 (start +ℤ step *ℤ pos k) → (bits + low_bits 8 step) % 2 ^ 64 ≡ low_bits 8 (start +ℤ step *ℤ pos (k + 1))
next_bits start step k bits is =
    let z = start +ℤ step *ℤ pos k in
    ap (λ b. (b + low_bits 8 step) % 2 ^ 64) is ∙ sym (low_bits-add z step) ∙ ap (low_bits 8) (next_number start step z k refl)

-- ---- a value is known by its bits

fits_eight : (scalar : Scalar) (z : ℤ) → IsValueOf scalar z → (signed : Bool) × FitsBytes signed 8 z
fits_eight BoolScalar z (inl none) = (false, (omega (arith, ints, none), omega (arith, ints, none)))
fits_eight BoolScalar z (inr one) = (false, (omega (arith, ints, one), omega (arith, ints, one)))
fits_eight (Byte false) z fits = (false, (fits.0, omega (arith, ints, fits.1)))
fits_eight (Byte true) z fits = (true, (omega (arith, ints, fits.0), omega (arith, ints, fits.1)))
fits_eight (IntScalar signed width order) z fits = (signed, fits_eight_bytes signed width z fits)
fits_eight (BytesScalar n) z never = absurd never

no_bits : (signed : Bool) → integer signed 8 0 ≡ pos 0
no_bits false = refl
no_bits true = refl

pub bits_of_value : (scalar : Scalar) (z : ℤ) (bits : ℕ) → IsNumber scalar → is_value scalar z ≡ true → bits ≡ low_bits 8 z → AreBits bits z
bits_of_value scalar z bits kind held is =
    let fits = fits_eight scalar z ((value_decides scalar z kind).0 held) in
    record {
      low = sym is;
      zero = λ none. sym (integer-low_bits fits.0 8 z (omega arith) fits.1) ∙ ap (integer fits.0 8) (sym is ∙ none) ∙ no_bits fits.0;
    }

-- ---- read back

value_read : (scalar : Scalar) (z : ℤ) → IsNumber scalar → is_value scalar z ≡ true → decode_item (ScalarDescr scalar) (encode scalar (number z)) ≡ number z ∷ []
value_read scalar z kind held =
    let same : number (wrap scalar z) ≡ number z = ap number ((Decides-int_eq (wrap scalar z) z).0 held) in
    ap (λ bytes. decode scalar bytes ∷ []) (take_all (size scalar) (encode scalar (number z)) (omega (arith, length-encode scalar (number z))))
    ∙ ap (λ value. decode scalar (encode scalar value) ∷ []) (sym same) ∙ ap (λ value. value ∷ []) (decode_encode scalar z kind ∙ same)

-- items that are joined, read one by one
read_joined : {B : Type 0} (f : List ℕ → B) (g : ℕ → B) (item : ℕ → List ℕ) (bytes n : ℕ) → ((k : ℕ) → k < n → length (item k) ≡ bytes) → ((k : ℕ) → k < n → f (item k) ≡ g k) → map f (blocks bytes n (joined item n)) ≡ map g (range_with_len 0 n)
read_joined f g item bytes zero each same = refl
read_joined f g item bytes (suc n) each same =
    let before = joined item n in
    let long : length before ≡ n * bytes = length-joined item bytes n (λ k low. each k (omega arith)) in
    let next : suc n ≡ n + 1 = omega arith in
    let cut : before ++ item n ≡ take (n * bytes) before ++ (item n ++ []) = (λ i. sym (take_all (n * bytes) before (omega arith)) i ++ sym (append-nil (item n)) i) in
    ap (λ m. map f (blocks bytes m (before ++ item n))) next
    ∙ ap (λ all. map f (blocks bytes (n + 1) all)) cut
    ∙ map-blocks-put f bytes n (n * bytes) before (item n) [] (map g (range_with_len 0 n)) (g n) refl (omega arith) (each n (omega arith)) (read_joined f g item bytes n (λ k low. each k (omega arith)) (λ k low. same k (omega arith))) (same n (omega arith))
    ∙ sym (map-range_with_len_more g 0 n n (omega arith))
    ∙ ap (λ m. map g (range_with_len 0 m)) (sym next)

-- each number of a range of values is a value
pub value_at : (scalar : Scalar) (start step : ℤ) (count k : ℕ) → list_all (is_value scalar) (numbers_from start step count) ≡ true → k < count → is_value scalar (start +ℤ step *ℤ pos k) ≡ true
value_at scalar start step count k held low =
    let z = start +ℤ step *ℤ pos k in let long = length-numbers_from start step count in
    ap (is_value scalar) (sym (get_or-map-range_with_len (λ j. start +ℤ step *ℤ pos j) 0 count k k z low (omega arith)))
    ∙ AllPass-from_list_all (is_value scalar) (numbers_from start step count) held k z (omega arith)

pub numbers_read : (scalar : Scalar) (start step : ℤ) (count : ℕ) → IsNumber scalar → list_all (is_value scalar) (numbers_from start step count) ≡ true → items_in (ScalarDescr scalar) count (joined (numbered scalar start step) count) ≡ map (λ value. number value ∷ []) (numbers_from start step count)
numbers_read scalar start step count kind held =
    read_joined (decode_item (ScalarDescr scalar)) (λ k. number (start +ℤ step *ℤ pos k) ∷ []) (numbered scalar start step) (size scalar) count
    (λ k low. length-encode scalar (number (start +ℤ step *ℤ pos k)))
    (λ k low. value_read scalar (start +ℤ step *ℤ pos k) kind (value_at scalar start step count k held low))
    ∙ sym (map-map (λ value. number value ∷ []) (λ k. start +ℤ step *ℤ pos k) (range_with_len 0 count))
