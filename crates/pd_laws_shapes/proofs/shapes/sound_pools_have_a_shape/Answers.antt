use Rattle.std.proofs.Common.{subst, sym}
use Rattle.pd_grammar.specs.Lawful.{IsLawfulPool}
use Rattle.pd_laid.specs.Shape.{image_shape}
use Rattle.pd_laws_shapes.proofs.SoundShape.{shape_means, shared_twice, sound_is_shape}
use Rattle.pd_laws_shapes.proofs.shapes.sound_pools_have_a_shape.Goals as goal

pub returns-clause-shape : goal.returns-clause-shape
returns-clause-shape c = λ image is none. sound_is_shape image none

pub returns-clause-means : goal.returns-clause-means
returns-clause-means c = shape_means

pub returns-clause-twice : goal.returns-clause-twice
returns-clause-twice c = shared_twice

pub returns-clause-spelled : goal.returns-clause-spelled
returns-clause-spelled c = λ image is none.
    c.shape_text_spells.ensures (image_shape image) (sound_is_shape image none)
    (subst IsLawfulPool (sym (shape_means image)) (c.sound_pools_are_lawful.ensures image is none))
