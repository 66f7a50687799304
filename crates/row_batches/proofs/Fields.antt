-- A field, which is bytes behind their number, is read in one way alone.
use Rattle.std.proofs.Common.{◌≡◌, ◌<◌, ◌^◌, ◌++◌, ◌∷◌, [], List, ℕ, zero, suc, length, get_or, take, drop, ◌∙◌, ap, sym, refl, append_assoc, length-append, arith, w16, w32}
use Rattle.std.proofs.lemmas.List.{take_at, drop_at}
use Rattle.std.proofs.lemmas.Nat.{from_be_bytes-to_be_bytes_2, from_be_bytes-to_be_bytes_4}
use Rattle.std.specs.Int.{to_be_bytes, from_be_bytes}

-- lists that are one, where these parts of them are equally long
pub front_same : (v w r t : List ℕ) → length v ≡ length w → v ++ r ≡ w ++ t → v ≡ w
front_same v w r t len same = sym (take_at v r (length v) refl) ∙ ap (take (length v)) same ∙ take_at w t (length v) (sym len)

pub rest_same : (v w r t : List ℕ) → length v ≡ length w → v ++ r ≡ w ++ t → r ≡ t
rest_same v w r t len same = sym (drop_at v r (length v) refl) ∙ ap (drop (length v)) same ∙ drop_at w t (length v) (sym len)

-- head encodes a number below bound in k bytes, which tell it
module _ (head : ℕ → List ℕ) (k bound : ℕ) (sized : (n : ℕ) → length (head n) ≡ k) (tells : (n m : ℕ) → n < bound → m < bound → head n ≡ head m → n ≡ m) where
  abbrev field : List ℕ → List ℕ
  field f = head (length f) ++ f

  pub same_field : (f g x y : List ℕ) → length f < bound → length g < bound → field f ++ x ≡ field g ++ y → (f ≡ g) × (x ≡ y)
  same_field f g x y f_in g_in same =
      let whole : head (length f) ++ (f ++ x) ≡ head (length g) ++ (g ++ y) = sym (append_assoc (head (length f)) f x) ∙ same ∙ append_assoc (head (length g)) g y in
      let even : length (head (length f)) ≡ length (head (length g)) = sized (length f) ∙ sym (sized (length g)) in
      let len : length f ≡ length g = tells (length f) (length g) f_in g_in (front_same (head (length f)) (head (length g)) (f ++ x) (g ++ y) even whole) in
      let rests : f ++ x ≡ g ++ y = rest_same (head (length f)) (head (length g)) (f ++ x) (g ++ y) even whole in
      (front_same f g x y len rests, rest_same f g x y len rests)

  -- fewer bytes than the number says
  pub cut_field : (bytes rest : List ℕ) (len : ℕ) → bytes ≡ head len ++ rest → len < bound → length rest < len → (f t : List ℕ) → length f < bound → bytes ≡ field f ++ t → ⊥
  cut_field bytes rest len is len_in cut f t f_in same =
      let whole : head len ++ rest ≡ head (length f) ++ (f ++ t) = sym is ∙ same ∙ append_assoc (head (length f)) f t in
      let even : length (head len) ≡ length (head (length f)) = sized len ∙ sym (sized (length f)) in
      let lens : len ≡ length f = tells len (length f) len_in f_in (front_same (head len) (head (length f)) rest (f ++ t) even whole) in
      let rests : rest ≡ f ++ t = rest_same (head len) (head (length f)) rest (f ++ t) even whole in
      omega (arith, ap length rests, length-append f t)

  -- too few bytes for a number
  pub no_number : (bytes : List ℕ) → length bytes < k → (f t : List ℕ) → bytes ≡ field f ++ t → ⊥
  no_number bytes short f t same =
      omega (arith, ap length same, length-append (field f) t, length-append (head (length f)) f, sized (length f))

  pub whole_field : (bytes rest f t : List ℕ) (len : ℕ) → bytes ≡ head len ++ rest → rest ≡ f ++ t → length f ≡ len → bytes ≡ field f ++ t
  whole_field bytes rest f t len is split sized_so =
      is ∙ ap (λ (l : List ℕ). head len ++ l) split ∙ sym (append_assoc (head len) f t) ∙ ap (λ (n : ℕ). (head n ++ f) ++ t) (sym sized_so)

-- ---- in two bytes, and in four

pub two_sized : (n : ℕ) → length (to_be_bytes w16 n) ≡ 2
two_sized n = refl

pub two_tell : (n m : ℕ) → n < 2 ^ 16 → m < 2 ^ 16 → to_be_bytes w16 n ≡ to_be_bytes w16 m → n ≡ m
two_tell n m n_in m_in same = sym (from_be_bytes-to_be_bytes_2 n n_in) ∙ ap (λ (l : List ℕ). from_be_bytes w16 l) same ∙ from_be_bytes-to_be_bytes_2 m m_in

pub four_sized : (n : ℕ) → length (to_be_bytes w32 n) ≡ 4
four_sized n = refl

pub four_tell : (n m : ℕ) → n < 2 ^ 32 → m < 2 ^ 32 → to_be_bytes w32 n ≡ to_be_bytes w32 m → n ≡ m
four_tell n m n_in m_in same = sym (from_be_bytes-to_be_bytes_4 n n_in) ∙ ap (λ (l : List ℕ). from_be_bytes w32 l) same ∙ from_be_bytes-to_be_bytes_4 m m_in

pub front_below : (bound n : ℕ) (l : List ℕ) → 0 < bound → ((i : ℕ) → get_or l i 0 < bound) → (i : ℕ) → get_or (take n l) i 0 < bound
front_below bound zero l some small i = some
front_below bound (suc n) [] some small i = some
front_below bound (suc n) (x ∷ l) some small zero = small 0
front_below bound (suc n) (x ∷ l) some small (suc i) = front_below bound n l some (λ j. small (suc j)) i
