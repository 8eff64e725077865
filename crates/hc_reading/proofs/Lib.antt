mod OneCommand
