-- A layer of the program.
use Rattle.json_tree.specs.Tree.{json_of}
use Rattle.feature_serving.specs.Layers.{Layer}
use Rattle.feature_serving.specs.declared.layers.Layer as lent

-- a layer without its addresses
abbrev pub view : lent.Layer → Layer
view l = record { kind = l.kind; published_at = l.published_at; slug = l.slug.now; value = json_of l.value.now }
