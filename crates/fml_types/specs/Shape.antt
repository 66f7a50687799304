-- What a type is, at every level.
use Rattle.std.specs.Prelude.{◌≡◌, ℕ, suc, ◌==◌, List, [], ◌∷◌, Option, Some, None, if◌then◌else◌}
use Rattle.std.proofs.Common.{refl, sym, ap, ◌∙◌}
use Rattle.std.specs.Coded.{Coded}
use base.Stored.{Gv, gnil, gnum, gcons}

pub data Shape : Type 0 where
  boolean : Shape
  int : Shape
  string : Shape
  text : Shape
  image : Shape
  option : Shape → Shape
  list : Shape → Shape
  map : Option (List ℕ) → Shape → Shape
  named : List ℕ → Shape

-- how many types stand inside one another
abbrev pub height : Shape → ℕ
height boolean = 0
height int = 0
height string = 0
height text = 0
height image = 0
height (option s) = suc (height s)
height (list s) = suc (height s)
height (map k s) = suc (height s)
height (named n) = 0

-- ---- how the logic stores a shape, and how it is found again

abbrev bytes_stored : List ℕ → Gv
bytes_stored [] = gnil
bytes_stored (x ∷ s) = gcons (gnum x) (bytes_stored s)

abbrev bytes_found : Gv → List ℕ
bytes_found (gcons (gnum x) g) = x ∷ bytes_found g
bytes_found g = []

abbrev key_stored : Option (List ℕ) → Gv
key_stored None = gnum 0
key_stored (Some n) = gcons gnil (bytes_stored n)

abbrev key_found : Gv → Option (List ℕ)
key_found (gcons g n) = Some (bytes_found n)
key_found g = None

abbrev stored : Shape → Gv
stored boolean = gnum 0
stored int = gnum 1
stored string = gnum 2
stored text = gnum 3
stored image = gnum 4
stored (option s) = gcons (gnum 0) (stored s)
stored (list s) = gcons (gnum 1) (stored s)
stored (map k s) = gcons (gcons gnil (key_stored k)) (stored s)
stored (named n) = gcons gnil (bytes_stored n)

abbrev simple : ℕ → Shape
simple n = if n == 0 then boolean else if n == 1 then int else if n == 2 then string else if n == 3 then text else image

abbrev around : ℕ → Shape → Shape
around n s = if n == 0 then option s else list s

abbrev found : Gv → Shape
found gnil = image
found (gnum n) = simple n
found (gcons (gnum n) g) = around n (found g)
found (gcons gnil g) = named (bytes_found g)
found (gcons (gcons a k) g) = map (key_found k) (found g)

bytes-found : (s : List ℕ) → bytes_found (bytes_stored s) ≡ s
bytes-found [] = refl
bytes-found (x ∷ s) = ap (λ t. x ∷ t) (bytes-found s)

key-found : (k : Option (List ℕ)) → key_found (key_stored k) ≡ k
key-found None = refl
key-found (Some n) = ap (λ t. Some t) (bytes-found n)

shape-found : (s : Shape) → found (stored s) ≡ s
shape-found boolean = refl
shape-found int = refl
shape-found string = refl
shape-found text = refl
shape-found image = refl
shape-found (option s) = ap option (shape-found s)
shape-found (list s) = ap list (shape-found s)
shape-found (map k s) = λ i. map (key-found k i) (shape-found s i)
shape-found (named n) = ap named (bytes-found n)

pub stored-one : (s t : Shape) → stored s ≡ stored t → s ≡ t
stored-one s t e = sym (shape-found s) ∙ ap found e ∙ shape-found t

abbrev pub shape_code : Coded Shape
shape_code = record { code = stored; inj = stored-one }
